-- Laws of the two passes over the gates, and of the whole reading.
-- Assumes nothing.
use mathlib.Core.Path.{◌≡◌, refl, sym, ap, ◌∙◌}
use mathlib.Core.List.{List, ◌∷◌}
use mathlib.Core.Option.{Option, none, some}
use Prim.Native.Nat.{ℕ, zero, suc, ◌+◌, ◌*◌, ◌-◌, ◌^◌, ◌<◌, ◌≤◌}
use native.Mathlib.Numerals.{sub-one, add-one, add-two, add-three}
use native.Mathlib.Omega.{arith}
use borrow.Author.Tests.{le-leb, lt-leb}
use lib.ListN.{length, set, length-set}
use lib.Seq.{sets}
use Rattle.std.specs.Prelude.{Some, None, Ok, Err, IsOk}
use Rattle.std.specs.declared.result.Result.{Result}
use Rattle.words.specs.declared.refusals.Refusal.{Refusal}
use Rattle.words.specs.Answer.{Answer, nowhere}
use Rattle.aiger.specs.Reading.{Header, Start, gates_start, Gate, gate_read, gate_from, Gates, found, gate_before, gates_from, Read, gates, gates_listed, read_aiger}
use Rattle.aiger.specs.AigerAnswer.{fitting, gate_list_after}
use Rattle.aiger.proofs.AigerGateLaws.{gates_on, gates_bad, list_read}
use Rattle.aiger.proofs.HeaderLaws.{start_fits}
use Rattle.aiger_read.specs.ReadTold.{header_is, start_told, gate_told, gates_judged, list_in, GatesFillable, gates_read_of}
use Rattle.aiger_read.specs.declared.start.Header.{Header as HeaderRead}
use Rattle.aiger_read.specs.declared.start.Start.{Start as StartRead}
use Rattle.aiger_read.specs.declared.differences.Gate.{Gate as GateRead}

-- ---- a gate that was told

gate_is : (g : Gate) (r : GateRead) → gate_told g ≡ Ok r → g ≡ gate_read r.first.0 r.second.0 r.next
gate_is (gate_read x y i) r e =
    let same : ◌≡◌ {A = GateRead} (record { first = record { 0 = x }; second = record { 0 = y }; next = i }) r = cc in
    rw (← same) refl
gate_is (Gate.refused n) r e = let z : ◌≡◌ {A = ℕ} 0 1 = cc in absurd (omega arith)

judged_before : (v a b : ℕ) (r : Gates) → gates_judged (gate_before v a b r) ≡ gates_judged r
judged_before v a b (found l at) = refl
judged_before v a b (Gates.refused n) = refl

list_before : (v a b : ℕ) (r : Gates) → gates_judged r ≡ Ok tt → list_in (gate_before v a b r) ≡ v ∷ a ∷ b ∷ list_in r
list_before v a b (found l at) e = refl
list_before v a b (Gates.refused n) e = let z : ◌≡◌ {A = ℕ} 0 1 = cc in absurd (omega arith)

-- ---- the gates from here on

module _ (bs : List ℕ) (left v i : ℕ) (p : 0 < left) where
  gates-next : (a b next : ℕ) → gate_from bs v i ≡ gate_read a b next → gates_from bs left v i ≡ gate_before v a b (gates_from bs (left - 1) (v + 1) next)
  gates-next a b next e = go left p
    where
      go : (k : ℕ) → 0 < k → gates_from bs k v i ≡ gate_before v a b (gates_from bs (k - 1) (v + 1) next)
      go zero q = absurd (omega arith)
      go (suc k) q = gates_on bs k v i a b next e ∙ ap (λ (n : ℕ). gate_before v a b (gates_from bs n (v + 1) next)) (sym (sub-one (suc k)))

  gates-not : (n : ℕ) → gate_from bs v i ≡ Gate.refused n → gates_from bs left v i ≡ Gates.refused n
  gates-not n e = go left p
    where
      go : (k : ℕ) → 0 < k → gates_from bs k v i ≡ Gates.refused n
      go zero q = absurd (omega arith)
      go (suc k) q = gates_bad bs k v i n e

  -- one gate less from the next on
  pub judged_next : (r : GateRead) (less w : ℕ) → less ≡ left - 1 → w ≡ v + 1 → gate_told (gate_from bs v i) ≡ Ok r
      → gates_judged (gates_from bs less w r.next) ≡ gates_judged (gates_from bs left v i)
  judged_next r less w el ew e =
      rw (el, ew) (sym (ap gates_judged (gates-next r.first.0 r.second.0 r.next (gate_is _ r e)) ∙ judged_before v r.first.0 r.second.0 (gates_from bs (left - 1) (v + 1) r.next)))

  pub judged_bad : (e : Refusal) → gate_told (gate_from bs v i) ≡ Err e → Err e ≡ gates_judged (gates_from bs left v i)
  judged_bad e f = go (gate_from bs v i) refl
    where
      go : (g : Gate) → gate_from bs v i ≡ g → Err e ≡ gates_judged (gates_from bs left v i)
      go (gate_read x y j) q =
          let k : gate_told (gate_read x y j) ≡ Err e = ap gate_told (sym q) ∙ f in
          let z : ◌≡◌ {A = ℕ} 0 1 = cc in
          absurd (omega arith)
      go (Gate.refused n) q =
          let k : gate_told (Gate.refused n) ≡ Err e = ap gate_told (sym q) ∙ f in
          let same : ◌≡◌ {A = Refusal} (nowhere n) e = cc in
          ap Err (sym same) ∙ ap gates_judged (sym (gates-not n q))

pub judged_end : (bs : List ℕ) (left v i : ℕ) → left ≡ 0 → Ok tt ≡ gates_judged (gates_from bs left v i)
unfolding gates_from
judged_end bs left v i e = rw e

-- ---- the list, as far as it is written

pub record Filling (bs old : List ℕ) (n v at : ℕ) (out : List ℕ) (left pin i j : ℕ) : Type 0 where
  pub good : gates_judged (gates_from bs left pin i) ≡ Ok tt
  pub room : j + 3 * left ≤ length old
  pub fits : pin + left ≤ 2 ^ 30 + 1
  pub long : length out ≡ length old
  pub same : sets out j (list_in (gates_from bs left pin i)) ≡ sets old 0 (list_in (gates_from bs n v at))

pub filling_start : (bs out : List ℕ) (n v at : ℕ) → GatesFillable bs (length out) n v at → Filling bs out n v at out n v at 0
filling_start bs out n v at F = record { good = F.good; room = omega (arith, F.room); fits = F.fits; long = refl; same = refl }

module _ {bs old : List ℕ} {n v at : ℕ} {out : List ℕ} {left pin i j : ℕ} (F : Filling bs old n v at out left pin i j) where
  pub filling_next : (r : GateRead) (less w k : ℕ) → less ≡ left - 1 → w ≡ pin + 1 → k ≡ j + 3 → 0 < left → gate_told (gate_from bs pin i) ≡ Ok r
      → Filling bs old n v at (set (set (set out j pin) (j + 1) r.first.0) (j + 2) r.second.0) less w r.next k
  filling_next r less w k el ew ek p e =
      let room = F.room in
      let fits = F.fits in
      let rest : Gates = gates_from bs (left - 1) (pin + 1) r.next in
      let here : gates_from bs left pin i ≡ gate_before pin r.first.0 r.second.0 rest = gates-next bs left pin i p r.first.0 r.second.0 r.next (gate_is _ r e) in
      let good : gates_judged rest ≡ Ok tt = sym (judged_before pin r.first.0 r.second.0 rest) ∙ ap gates_judged (sym here) ∙ F.good in
      let list : list_in (gates_from bs left pin i) ≡ pin ∷ r.first.0 ∷ r.second.0 ∷ list_in rest = ap list_in here ∙ list_before pin r.first.0 r.second.0 rest good in
      rw (el, ew, ek)
      (record {
        good = good;
        room = omega arith;
        fits = omega arith;
        long = simp length-set F.long;
        same = rw (add-one j, add-two j, add-three j) (ap (sets out j) (sym list) ∙ F.same);
      })

  pub filling_good : 0 < left → IsOk (gate_told (gate_from bs pin i))
  filling_good p = go (gate_told (gate_from bs pin i)) refl
    where
      go : (r : Result GateRead Refusal) → gate_told (gate_from bs pin i) ≡ r → IsOk r
      go (Ok r) e = refl
      go (Err q) e =
          let k : Err q ≡ Ok tt = judged_bad bs left pin i p q e ∙ F.good in
          let z : ◌≡◌ {A = ℕ} 0 1 = cc in
          absurd (omega arith)

  pub filling_end : left ≡ 0 → out ≡ sets old 0 (list_in (gates_from bs n v at))
  unfolding gates_from
  filling_end e = rw e at F.same

-- ---- the whole

pub gates_start_is : (bs : List ℕ) (r : StartRead) → start_told (gates_start bs) ≡ Some r
    → gates_start bs ≡ some (record { header = record { inputs = r.header.inputs; latches = r.header.latches; outputs = r.header.outputs; gates = r.header.gates }; next = r.next })
gates_start_is bs r e = go (gates_start bs) refl
  where
    go : (o : Option Start) → gates_start bs ≡ o → gates_start bs ≡ some (record { header = record { inputs = r.header.inputs; latches = r.header.latches; outputs = r.header.outputs; gates = r.header.gates }; next = r.next })
    go none p =
        let f : None ≡ Some r = ap start_told (sym p) ∙ e in
        let z : ◌≡◌ {A = ℕ} 0 1 = cc in
        absurd (omega arith)
    go (some s) p =
        let f : Some (record { header = header_is s.header; next = s.next }) ≡ Some r = ap start_told (sym p) ∙ e in
        let same : ◌≡◌ {A = StartRead} (record { header = header_is s.header; next = s.next }) r = cc in
        rw (← same) p

-- what is answered, and what the lent words then hold
pub record Answered (bs out : List ℕ) (r : Result HeaderRead Refusal) (new : List ℕ) : Type 0 where
  pub value : r ≡ gates_read_of (fitting (length out) (read_aiger bs))
  pub out_after : new ≡ gate_list_after (fitting (length out) (read_aiger bs)) out

not_read : (bs out : List ℕ) (q : Refusal) → fitting (length out) (read_aiger bs) ≡ Answer.refused q → Answered bs out (Err q) out
unfolding gate_list_after
not_read bs out q e = record { value = ap gates_read_of (sym e); out_after = ap (λ (k : Answer Read). gate_list_after k out) (sym e) }

fitting_not : (o : ℕ) (k : Answer Read) (n : Refusal) → k ≡ Answer.refused n → fitting o k ≡ Answer.refused n
unfolding fitting
fitting_not o k n e = rw e

fitting_short : (o : ℕ) (h : Header) (l : List ℕ) → o < length l → fitting o (gates h l) ≡ Answer.refused (nowhere 14)
unfolding fitting
fitting_short o h l e = rw (lt-leb (length l) o e, fitting)

fitting_long : (o : ℕ) (h : Header) (l : List ℕ) → length l ≤ o → fitting o (gates h l) ≡ gates h l
unfolding fitting
fitting_long o h l e = rw (le-leb (length l) o e, fitting)

-- refused by 18
pub read_no_start : (bs out : List ℕ) → start_told (gates_start bs) ≡ None → Answered bs out (Err (nowhere 18)) out
unfolding read_aiger
read_no_start bs out e = go (gates_start bs) refl
  where
    go : (o : Option Start) → gates_start bs ≡ o → Answered bs out (Err (nowhere 18)) out
    go none p = not_read bs out (nowhere 18) (fitting_not (length out) (read_aiger bs) (nowhere 18) (rw (p, read_aiger)))
    go (some s) p =
        let g : start_told (some s) ≡ None = ap start_told (sym p) ∙ e in
        let z : ◌≡◌ {A = ℕ} 0 1 = cc in
        absurd (omega arith)

module _ (bs : List ℕ) (r : StartRead) (S : start_told (gates_start bs) ≡ Some r) where
  own : Start
  own = record { header = record { inputs = r.header.inputs; latches = r.header.latches; outputs = r.header.outputs; gates = r.header.gates }; next = r.next }

  pub header_bound : r.header.inputs + r.header.latches + r.header.gates ≤ 2 ^ 30
  unfolding own
  header_bound = start_fits bs own (gates_start_is bs r S)

  abbrev pub list_of : Gates
  list_of = gates_from bs r.header.gates (r.header.inputs + r.header.latches + 1) r.next

  read_is : read_aiger bs ≡ gates_listed own.header list_of
  unfolding read_aiger own
  read_is = rw (gates_start_is bs r S, read_aiger)

  -- refused by 19 or 20
  pub read_bad : (out : List ℕ) (q : Refusal) → gates_judged list_of ≡ Err q → Answered bs out (Err q) out
  unfolding own
  read_bad out q e = go list_of refl
    where
      go : (g : Gates) → list_of ≡ g → Answered bs out (Err q) out
      go (found l i) p =
          let b : gates_judged (found l i) ≡ Err q = ap gates_judged (sym p) ∙ e in
          let z : ◌≡◌ {A = ℕ} 0 1 = cc in
          absurd (omega arith)
      go (Gates.refused k) p =
          let b : gates_judged (Gates.refused k) ≡ Err q = ap gates_judged (sym p) ∙ e in
          let same : ◌≡◌ {A = Refusal} (nowhere k) q = cc in
          not_read bs out q (fitting_not (length out) (read_aiger bs) q (read_is ∙ (ap (gates_listed own.header) p ∙ ap Answer.refused same)))

  -- a list that was found has three words a gate
  module _ (J : gates_judged list_of ≡ Ok tt) where
    found-list : (l : List ℕ) × ((i : ℕ) × (list_of ≡ found l i))
    found-list = go list_of refl
      where
        go : (g : Gates) → list_of ≡ g → (l : List ℕ) × ((i : ℕ) × (list_of ≡ found l i))
        go (found l i) p = (l, (i, p))
        go (Gates.refused k) p =
            let b : gates_judged (Gates.refused k) ≡ Ok tt = ap gates_judged (sym p) ∙ J in
            let z : ◌≡◌ {A = ℕ} 0 1 = cc in
            absurd (omega arith)

    read-good : read_aiger bs ≡ gates own.header (list_in list_of)
    read-good = read_is ∙ ap (gates_listed own.header) found-list.1.1 ∙ ap (λ (g : Gates). gates own.header (list_in g)) (sym found-list.1.1)

    list_long : length (list_in list_of) ≡ 3 * r.header.gates
    list_long = ap (λ (g : Gates). length (list_in g)) found-list.1.1 ∙ (list_read bs r.header.gates _ r.next _ _ found-list.1.1).long

    -- refused by 14
    pub read_short : (out : List ℕ) → length out < 3 * r.header.gates → Answered bs out (Err (nowhere 14)) out
    read_short out small =
        let long = list_long in
        let short : length out < length (list_in list_of) = omega arith in
        not_read bs out (nowhere 14) (ap (fitting (length out)) read-good ∙ fitting_short (length out) own.header _ short)

    pub read_whole : (out new : List ℕ) → 3 * r.header.gates ≤ length out → new ≡ sets out 0 (list_in list_of) → Answered bs out (Ok r.header) new
    unfolding gate_list_after own
    read_whole out new room is =
        let long = list_long in
        let l : List ℕ = list_in list_of in
        let enough : length l ≤ length out = omega arith in
        let fits : fitting (length out) (read_aiger bs) ≡ gates own.header l = ap (fitting (length out)) read-good ∙ fitting_long (length out) own.header l enough in
        record { value = ap gates_read_of (sym fits); out_after = is ∙ ap (λ (k : Answer Read). gate_list_after k out) (sym fits) }
