-- Many puts, one after the other: what other crates cite. `Holds` begins at zeros (`holds-none`) and goes one put at a time (`holds-put`);
-- `Renewed` begins at `Holds` and goes one put-where-there at a time. What is found is the last value put, and a pin never put is not.
-- Assumes nothing.
use mathlib.Core.Path.{◌≡◌, refl, sym, ap, ◌∙◌}
use mathlib.Core.Bool.{Bool, true, false}
use mathlib.Core.Option.{Option, none, some}
use mathlib.Core.List.{List, [], ◌∷◌, ◌++◌, append-nil}
use Prim.Native.Nat.{ℕ, zero, suc, ◌+◌, ◌*◌, ◌/◌, ◌≤◌, ◌<◌}
use native.Mathlib.Omega.{arith}
use lib.Dec.{eqb}
use lib.ListN.{length, replicate, length-append, length-replicate}
use lib.Seq.{append_snoc}
use Rattle.words.proofs.ListLaws.{zeros_at}
use Rattle.std.specs.Prelude.{Ok}
use Rattle.pinmap.specs.PinMap.{capacity, look, put_in, put_answer, put_there, used_to, used, Findable, Entry, entry, replaced, last_from, last_put, renewed, after_puts, after_renewals, Holds, Renewed}
use Rattle.pinmap.proofs.ProbeLaws.{slot_taken}
use Rattle.pinmap.proofs.PinMapLaws.{look_none, map_law, there_law, put_length, used_new, used_there, used_renewed, used_free_step, room_stored}

-- ---- the empty map

pub zeros_good : (n : ℕ) → Findable (replicate n 0)
unfolding Findable
zeros_good n i q h e = absurd (omega (arith, e, zeros_at n (2 * i)))

-- The cleared table finds nothing, and has no slot taken.
pub zeros_look : (n q : ℕ) → look (replicate n 0) q ≡ none
zeros_look n q = look_none (replicate n 0) q (λ k e. omega (arith, (slot_taken (replicate n 0) q k e).1, zeros_at n (2 * k)))

zeros_used_to : (n m : ℕ) → used_to (replicate n 0) m ≡ 0
unfolding used_to
zeros_used_to n zero = refl
zeros_used_to n (suc m) = used_free_step (replicate n 0) m (zeros_at n (2 * m)) ∙ zeros_used_to n m

pub zeros_used : (n : ℕ) → used (replicate n 0) ≡ 0
zeros_used n = zeros_used_to n (capacity (replicate n 0))

-- ---- the last value put

pub last_snoc : (o : Option ℕ) (es : List Entry) (e : Entry) (q : ℕ) → last_from o (es ++ (e ∷ [])) q ≡ replaced e q (last_from o es q)
unfolding last_from
last_snoc o [] e q = refl
last_snoc o (x ∷ es) e q = last_snoc (replaced x q o) es e q

last_some : (w : ℕ) (es : List Entry) (q : ℕ) → (x : ℕ) × (last_from (some w) es q ≡ some x)
unfolding last_from
last_some w [] q = (w, refl)
last_some w (e ∷ es) q = go (eqb q e.pin) (last_some e.value es q) (last_some w es q)
  where
    go : (b : Bool) → ((x : ℕ) × (last_from (some e.value) es q ≡ some x)) → ((x : ℕ) × (last_from (some w) es q ≡ some x))
        → (x : ℕ) × (last_from (elim b [ true ↦ some e.value | false ↦ some w ]) es q ≡ some x)
    go true a b = a
    go false a b = b

pub renewed_snoc : (o : Option ℕ) (es : List Entry) (e : Entry) (q : ℕ) → renewed o (es ++ (e ∷ [])) q ≡ renewed (renewed o es q) (e ∷ []) q
unfolding renewed last_from
renewed_snoc none es e q = refl
renewed_snoc (some w) es e q =
    let (x, is) = last_some w es q in
    last_snoc (some w) es e q ∙ rw is

-- ---- one put at a time

pub holds_none : (n : ℕ) → Holds (replicate n 0) []
unfolding last_from
holds_none n = record { good = zeros_good n; finds = zeros_look n; few = rw zeros_used (omega arith) }

-- there is room for one put more, where the puts are fewer than the slots
pub holds_room : (t : List ℕ) (puts : List Entry) (p : ℕ) → Holds t puts → length puts < capacity t → put_answer t p ≡ Ok tt
holds_room t puts p h l = room_stored t p (omega (arith, h.few))

used_most : (t : List ℕ) (p v : ℕ) → put_answer t p ≡ Ok tt → used (put_in t p v) ≤ 1 + used t
used_most t p v h = go (look t p) refl
  where
    go : (o : Option ℕ) → look t p ≡ o → used (put_in t p v) ≤ 1 + used t
    go none e = omega (arith, used_new t p v h e)
    go (some w) e = omega (arith, used_there t p v w e)

pub holds_put : (t : List ℕ) (puts : List Entry) (p v : ℕ) → Holds t puts → put_answer t p ≡ Ok tt → Holds (put_in t p v) (puts ++ (entry p v ∷ []))
holds_put t puts p v h a =
    let (good, finds) = map_law t p v h.good a in
    record {
      good = good;
      finds = λ q. finds q ∙ (ap (replaced (entry p v) q) (h.finds q) ∙ sym (last_snoc none puts (entry p v) q));
      few = rw length-append (omega (arith, used_most t p v a, h.few));
    }

pub holds_puts : (t : List ℕ) (puts es : List Entry) → Holds t puts → length puts + length es ≤ capacity t → Holds (after_puts t es) (puts ++ es)
unfolding after_puts
holds_puts t puts [] h l = rw append-nil h
holds_puts t puts (e ∷ es) h l =
    let stored : put_answer t e.pin ≡ Ok tt = holds_room t puts e.pin h (omega arith) in
    let size : length (put_in t e.pin e.value) ≡ length t = put_length t e.pin e.value in
    let room : length (puts ++ (e ∷ [])) + length es ≤ capacity (put_in t e.pin e.value) = rw (length-append, size) (omega arith) in
    rw append_snoc at (holds_puts (put_in t e.pin e.value) (puts ++ (e ∷ [])) es (holds_put t puts e.pin e.value h stored) room)

-- What is found after puts into zeros is the last value put; a pin never put is not found.
pub puts_look : (n : ℕ) (puts : List Entry) (q : ℕ) → length puts ≤ n / 2 → look (after_puts (replicate n 0) puts) q ≡ last_put puts q
puts_look n puts q l = (holds_puts (replicate n 0) [] puts (holds_none n) (rw length-replicate (omega arith))).finds q

-- ---- renewals of the pins that are there

pub renewed_none : (t : List ℕ) (puts : List Entry) → Holds t puts → Renewed t puts []
unfolding renewed last_from
renewed_none t puts h = record { good = h.good; finds = λ q. h.finds q ∙ nothing (last_put puts q) q; few = h.few }
  where
    nothing : (o : Option ℕ) (q : ℕ) → o ≡ renewed o [] q
    nothing none q = refl
    nothing (some w) q = refl

pub renewed_there : (t : List ℕ) (puts es : List Entry) (p v : ℕ) → Renewed t puts es → Renewed (put_there t p v) puts (es ++ (entry p v ∷ []))
renewed_there t puts es p v h =
    let (good, finds) = there_law t p v h.good in
    record {
      good = good;
      finds = λ q. finds q ∙ (ap (λ (o : Option ℕ). renewed o (entry p v ∷ []) q) (h.finds q) ∙ sym (renewed_snoc (last_put puts q) es (entry p v) q));
      few = rw used_renewed h.few;
    }

pub renewed_all : (t : List ℕ) (puts es more : List Entry) → Renewed t puts es → Renewed (after_renewals t more) puts (es ++ more)
unfolding after_renewals
renewed_all t puts es [] h = rw append-nil h
renewed_all t puts es (e ∷ more) h =
    rw append_snoc at (renewed_all (put_there t e.pin e.value) puts (es ++ (e ∷ [])) more (renewed_there t puts es e.pin e.value h))
