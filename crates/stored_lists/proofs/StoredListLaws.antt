-- A list put run by run: what is put, and what the file still has, is the list.
-- Assumes nothing.
use mathlib.Core.Path.{◌≡◌, sym, ap, ◌∙◌}
use mathlib.Core.List.{List, [], ◌++◌, append_assoc, append-nil}
use Prim.Native.Nat.{ℕ, suc, ◌+◌, ◌*◌, ◌-◌, ◌≤◌, ◌<◌}
use native.Mathlib.Omega.{arith}
use borrow.Rule.Slice.PartMut.{put_mid}
use lib.ListN.{length, take, drop, replicate, length-append, length-drop, length-replicate}
use lib.Seq.{length-take-le, take_at}
use Rattle.plan_record.specs.Record.{word_at}
use Rattle.stored_lists.specs.Stored.{runs_from, list_at}

-- a run of n words v, put from index f on
pub run_filled : (l m : List ℕ) (f n v : ℕ) → f + n ≤ length l → m ≡ replicate (length (take (f + n - f) (drop f l))) v
    → take (f + n) (put_mid f (f + n - f) l m) ≡ take f l ++ replicate n v
run_filled l m f n v h e =
    let z : f + n - f ≡ n = omega arith in
    let long : length (take f l) ≡ f = length-take-le f l (omega arith) in
    let part : length (take (f + n - f) (drop f l)) ≡ n = rw z (length-take-le n (drop f l) (simp length-drop (omega arith))) in
    let is : m ≡ replicate n v = e ∙ ap (λ (i : ℕ). replicate i v) part in
    let all : length (take f l ++ m) ≡ f + n = rw (length-append, is, length-replicate, long) in
    let rest = drop (f + n - f) (drop f l) in
    ap (take (f + n)) (sym (append_assoc (take f l) m rest)) ∙ take_at (take f l ++ m) rest (f + n) all ∙ ap (λ (x : List ℕ). take f l ++ x) is

runs_more : (d : List ℕ) (j j' n m : ℕ) → n ≡ suc m → j' ≡ j + 2 → runs_from d j n ≡ replicate (word_at d j) (word_at d (j + 1)) ++ runs_from d j' m
unfolding runs_from
runs_more d j j' n m e g =
    ap (λ (x : ℕ). runs_from d j x) e ∙ ap (λ (x : ℕ). replicate (word_at d j) (word_at d (j + 1)) ++ runs_from d x m) (sym g)

runs_none : (d : List ℕ) (j n : ℕ) → n ≡ 0 → runs_from d j n ≡ []
unfolding runs_from
runs_none d j n e = ap (λ (x : ℕ). runs_from d j x) e

module _ (d : List ℕ) (at : ℕ) where
  -- i of the runs are put, and they are f words
  abbrev pub Put : ℕ → ℕ → ℕ → List ℕ → Type 0
  Put runs i f l = take f l ++ runs_from d (at + 1 + 2 * i) (runs - i) ≡ list_at d at

  pub put_none : (runs : ℕ) (l : List ℕ) → runs ≡ word_at d at → Put runs 0 0 l
  unfolding list_at
  put_none runs l e =
      let g : at + 1 + 2 * 0 ≡ at + 1 = omega arith in
      let h : runs - 0 ≡ word_at d at = omega (arith, e) in
      ap (λ (x : ℕ). runs_from d x (runs - 0)) g ∙ ap (λ (x : ℕ). runs_from d (at + 1) x) h

  pub put_more : (runs i f c w : ℕ) (l m : List ℕ) → i < runs → Put runs i f l → c ≡ word_at d (at + 1 + 2 * i) → w ≡ word_at d (at + 2 + 2 * i)
      → take (f + c) m ≡ take f l ++ replicate c w → Put runs (i + 1) (f + c) m
  put_more runs i f c w l m h p ec ew e =
      let j = at + 1 + 2 * i in
      let g : at + 2 + 2 * i ≡ j + 1 = omega arith in
      let rest = runs_from d (at + 1 + 2 * (i + 1)) (runs - (i + 1)) in
      ap (λ (x : List ℕ). x ++ rest) e
      ∙ append_assoc (take f l) (replicate c w) rest
      ∙ ap (λ (x : ℕ). take f l ++ (replicate x w ++ rest)) ec
      ∙ ap (λ (x : ℕ). take f l ++ (replicate (word_at d j) x ++ rest)) (ew ∙ ap (λ (x : ℕ). word_at d x) g)
      ∙ ap (λ (x : List ℕ). take f l ++ x) (sym (runs_more d j (at + 1 + 2 * (i + 1)) (runs - i) (runs - (i + 1)) (omega arith) (omega arith)))
      ∙ p

  pub put_all : (runs i f : ℕ) (l : List ℕ) → runs ≤ i → Put runs i f l → take f l ≡ list_at d at
  put_all runs i f l h p =
      sym (append-nil (take f l)) ∙ ap (λ (x : List ℕ). take f l ++ x) (sym (runs_none d (at + 1 + 2 * i) (runs - i) (omega arith))) ∙ p
