-- A read set that is placed passed every refusal, so that all laws of packings hold of its lanes.
-- Assumes nothing.
use mathlib.Core.Path.{◌≡◌, refl, sym, ap, ◌∙◌}
use mathlib.Core.Bool.{Bool, true, false}
use mathlib.Core.Option.{Option, none, some}
use mathlib.Core.List.{List}
use Prim.Native.Nat.{ℕ, ◌*◌, ◌^◌, ◌≤◌, ◌<◌}
use native.Mathlib.Nat.{lt_of_le_of_lt}
use native.Mathlib.Omega.{arith}
use borrow.Author.Tests.{leb-true, le-leb, ltb-true, lt-ltb}
use lib.Dec.{leb, ltb, lit<}
use lib.ListN.{length, get_or}
use Rattle.words.proofs.AnswerLaws.{refused_good}
use Rattle.reads.specs.ReadSet.{Pair, total, pairs_of, broken}
use Rattle.reads.specs.Search.{Lane, stuck, try, Found, won, ended, found_of, stop_word, last_word, lanes_found, size_found, lanes_of, size_of, longest}
use Rattle.reads.specs.Packing.{times, Packing, wide_pairs}
use Rattle.words.specs.Answer.{Answer, good, refused, at_item, nowhere}
use Rattle.reads.specs.SetAnswer.{Packed, searched, packed, read_set, set_fitted}
use Rattle.reads.proofs.SearchLaws.{last_ended, won_lanes_lem, size_won}
use Rattle.reads.proofs.PackingLaws.{lanes_packing}
use Rattle.reads.proofs.BoundLaws.{no_loss}
use Rattle.reads.proofs.SetLaws.{pairs_small}
use Rattle.reads.proofs.RoundCountLaws.{rounds_range}
use Rattle.reads.proofs.LocalLaws.{OwnPositions, own_positions}

-- ---- 3, 21, 22, and the search

pub packed_searched : (n : ℕ) (ps : List Pair) → 0 < length ps → total ps ≤ 32 * n → wide_pairs ps ≤ n → packed n ps ≡ searched n ps
unfolding packed
packed_searched n ps h l m = rw (lt-ltb 0 (length ps) h, le-leb (total ps) (32 * n) l, le-leb (wide_pairs ps) n m, packed)

-- which of the four a set comes to
pub data Came (n : ℕ) (ps : List Pair) : Type 0 where
  at_three : packed n ps ≡ refused (nowhere 3) → Came n ps
  at_bits : packed n ps ≡ refused (nowhere 21) → Came n ps
  at_wide : packed n ps ≡ refused (nowhere 22) → Came n ps
  at_search : 0 < length ps → total ps ≤ 32 * n → wide_pairs ps ≤ n → packed n ps ≡ searched n ps → Came n ps

pub came : (n : ℕ) (ps : List Pair) → Came n ps
unfolding packed
came n ps = go (ltb 0 (length ps)) refl (leb (total ps) (32 * n)) refl (leb (wide_pairs ps) n) refl
  where
    go : (a : Bool) → ltb 0 (length ps) ≡ a → (b : Bool) → leb (total ps) (32 * n) ≡ b → (c : Bool) → leb (wide_pairs ps) n ≡ c → Came n ps
    go false ea b eb c ec = at_three (rw (ea, packed))
    go true ea false eb c ec = at_bits (rw (ea, eb, packed))
    go true ea true eb false ec = at_wide (rw (ea, eb, ec, packed))
    go true ea true eb true ec =
        at_search (ltb-true 0 (length ps) ea) (leb-true (total ps) (32 * n) eb) (leb-true (wide_pairs ps) n ec) (rw (ea, eb, ec, packed))

searched_placed : (n : ℕ) (ps : List Pair) (x : Packed) → searched n ps ≡ good x → found_of n ps ≡ won x.size x.lanes
unfolding searched
searched_placed n ps x e = go (found_of n ps) refl
  where
    go : (o : Found) → found_of n ps ≡ o → found_of n ps ≡ won x.size x.lanes
    go ended f = refused_good _ x (rw (f, searched) at e)
    go (won k ls) f =
        let q : good (record { size = k; lanes = ls }) ≡ good x = rw (f, searched) at e in
        let s : record { size = k; lanes = ls } ≡ x = cc in
        f ∙ ap (λ (y : Packed). won y.size y.lanes) s

-- what a set that is placed was found to have
pub packed_placed : (n : ℕ) (ps : List Pair) (x : Packed) → packed n ps ≡ good x → (0 < length ps) × (found_of n ps ≡ won x.size x.lanes)
packed_placed n ps x e = go (came n ps)
  where
    go : Came n ps → (0 < length ps) × (found_of n ps ≡ won x.size x.lanes)
    go (at_three q) = refused_good _ x (sym q ∙ e)
    go (at_bits q) = refused_good _ x (sym q ∙ e)
    go (at_wide q) = refused_good _ x (sym q ∙ e)
    go (at_search h l m q) = (h, searched_placed n ps x (sym q ∙ e))

-- and the other way round: 21 and 22 take nothing away
pub found_packed : (n : ℕ) (ps : List Pair) (lanes : List Lane) → 0 < n → 0 < length ps → lanes_of n ps ≡ some lanes
    → packed n ps ≡ good (record { size = size_of n ps; lanes = lanes })
unfolding searched size_found
found_packed n ps lanes h l e =
    let w = size_won n ps lanes e in
    let fits = no_loss n ps (size_of n ps) lanes h w.size w.wins in
    packed_searched n ps l fits.0 fits.1 ∙ rw (won_lanes_lem (found_of n ps) lanes e, searched)

-- ---- the word that 4 is told at

abbrev number_told : Answer Packed → ℕ
number_told (good x) = 0
number_told (refused q) = q.number

abbrev item_told : Answer Packed → ℕ
item_told (good x) = 0
item_told (refused q) = q.item

-- The word told is that of the pair which found no lane in the try of size 1.
pub ended_is : (n : ℕ) (ps : List Pair) (w : ℕ) → length ps ≤ 8192 → packed n ps ≡ refused (at_item 4 w)
    → (p : Pair) × (lanes : List Lane) × (try n ps 1 ≡ stuck p lanes) × (w ≡ p.word)
unfolding searched stop_word
ended_is n ps w few e = go (came n ps)
  where
    Told : Type 0
    Told = (p : Pair) × (lanes : List Lane) × (try n ps 1 ≡ stuck p lanes) × (w ≡ p.word)

    stopped : 0 < length ps → searched n ps ≡ refused (at_item 4 w) → (o : Found) → found_of n ps ≡ o → Told
    stopped h q (won k ls) f =
        let s : ◌≡◌ {A = Answer Packed} (good (record { size = k; lanes = ls })) (refused (at_item 4 w)) = rw (f, searched) at q in
        let z : ◌≡◌ {A = ℕ} 0 1 = cc in
        absurd (omega arith)
    stopped h q ended f =
        let s : refused (at_item 4 (last_word n ps)) ≡ refused (at_item 4 w) = rw (f, searched) at q in
        let last = last_ended n ps 14 (length ps) (lt_of_le_of_lt few (lit< tt)) h f in
        (last.0, last.1, last.2, sym (ap item_told s) ∙ ap stop_word last.2)

    go : Came n ps → Told
    go (at_three q) = let z : ◌≡◌ {A = ℕ} 3 4 = ap number_told (sym q ∙ e) in absurd (omega arith)
    go (at_bits q) = let z : ◌≡◌ {A = ℕ} 21 4 = ap number_told (sym q ∙ e) in absurd (omega arith)
    go (at_wide q) = let z : ◌≡◌ {A = ℕ} 22 4 = ap number_told (sym q ∙ e) in absurd (omega arith)
    go (at_search h l m q) = stopped h (sym q ∙ e) (found_of n ps) refl

pub placed_lanes : (n : ℕ) (ps : List Pair) (x : Packed) → packed n ps ≡ good x → lanes_of n ps ≡ some x.lanes
unfolding lanes_found
placed_lanes n ps x e = ap lanes_found (packed_placed n ps x e).1

-- What a placed set is given is a packing of it.
pub placed_packing : (n : ℕ) (ps : List Pair) (x : Packed) → packed n ps ≡ good x → 0 < n → Packing n ps x.lanes
placed_packing n ps x e h = lanes_packing n ps x.lanes (placed_lanes n ps x e) h

-- what the refusals before it leave
pub record SetPassed (n : ℕ) (ps : List Pair) (x : Packed) : Type 0 where
  pub few : length ps ≤ 8192
  pub form : broken ps ≡ none
  pub nonempty : 0 < length ps
  pub placed : packed n ps ≡ good x

pub placed_passed : (n : ℕ) (ps : List Pair) (x : Packed) → read_set n ps ≡ good x → SetPassed n ps x
unfolding read_set
placed_passed n ps x e = go (leb (length ps) 8192) refl (broken ps) refl
  where
    go : (t : Bool) → leb (length ps) 8192 ≡ t → (o : Option ℕ) → broken ps ≡ o → SetPassed n ps x
    go false t o f = refused_good _ x (rw (t, read_set) at e)
    go true t (some i) f = refused_good _ x (rw (t, f, read_set) at e)
    go true t none f =
        let p : packed n ps ≡ good x = rw (t, f, read_set) at e in
        record { few = leb-true (length ps) 8192 t; form = f; nonempty = (packed_placed n ps x p).0; placed = p }

pub fitted_placed : (n o : ℕ) (d : Answer Packed) (x : Packed) → set_fitted n o d ≡ good x → (d ≡ good x) × (2 * n * longest x.lanes ≤ o)
unfolding set_fitted
fitted_placed n o (refused q) x e = refused_good q x e
fitted_placed n o (good y) x e = go (leb (2 * n * longest y.lanes) o) refl
  where
    go : (t : Bool) → leb (2 * n * longest y.lanes) o ≡ t → (good y ≡ good x) × (2 * n * longest x.lanes ≤ o)
    go false t = refused_good _ x (rw (t, set_fitted) at e)
    go true t =
        let q : good y ≡ good x = rw (t, set_fitted) at e in
        let s : y ≡ x = cc in
        (q, rw (← s) (leb-true (2 * n * longest y.lanes) o t))

-- what is promised of the lanes
pub record Sound (n : ℕ) (ps : List Pair) (x : Packed) : Type 0 where
  pub passed : SetPassed n ps x
  pub packing : Packing n ps x.lanes
  pub small : (w m : ℕ) → 0 < times w m ps → m < 2 ^ 32
  pub rounds : (0 < longest x.lanes) × (longest x.lanes ≤ 32)
  pub positions : OwnPositions n ps x.lanes

pub placed_sound : (n : ℕ) (ws : List ℕ) (x : Packed)
    → 0 < n → ((i : ℕ) → get_or ws i 0 < 2 ^ 32) → read_set n (pairs_of ws) ≡ good x → Sound n (pairs_of ws) x
placed_sound n ws x h fits e =
    let p = placed_passed n (pairs_of ws) x e in
    let packs = placed_packing n (pairs_of ws) x p.placed h in
    let masks : (w m : ℕ) → 0 < times w m (pairs_of ws) → m < 2 ^ 32 = λ w m q. (pairs_small 0 ws (2 ^ 32) fits w m q).1 in
    record {
      passed = p;
      packing = packs;
      small = masks;
      rounds = rounds_range n (pairs_of ws) x.lanes packs p.form masks p.nonempty;
      positions = own_positions n (pairs_of ws) x.lanes packs p.form masks;
    }
