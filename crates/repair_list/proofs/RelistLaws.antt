-- One entry or one spot more, in the code's terms.
-- Assumes nothing.
use mathlib.Core.Path.{◌≡◌, refl, sym, ap, ap₂, ◌∙◌}
use mathlib.Core.List.{List, [], ◌∷◌, ◌++◌}
use mathlib.Core.Option.{Option, none, some}
use Prim.Native.Nat.{ℕ, ◌+◌, ◌*◌, ◌-◌, ◌≤◌, ◌<◌}
use native.Mathlib.Numerals.{add-one}
use native.Mathlib.Omega.{arith}
use borrow.Author.Tests.{eq-eqb, ne_eqb}
use lib.ListN.{length, get_or, drop, set, length-append, drop_of_length-le}
use lib.Seq.{sets, drop-cons}
use Rattle.words.proofs.ListLaws.{sets_append}
use Rattle.words.specs.Pins.{empty}
use Rattle.repair_nodes.specs.Pairs.{pair_words}
use Rattle.repair_nodes.specs.Stage.{Spot, spot, spots_of, spots_stored, emptied}
use Rattle.repair_nodes.specs.CountList.{Count, counted, counts_of, count_words, nodes_of, nonzero}
use Rattle.repair_nodes.proofs.TwoWordLaws.{pairs_drop, pairs_end, words_length, words_append}
use Rattle.repair_nodes.proofs.CountListLaws.{nonzero_append}
use Rattle.std.specs.Option.{unwrap_or}
use Rattle.words.specs.Found.{item_of}
use Rattle.repair_list.specs.Relist.{count_or_zero, count_in_map, entries_of, EntriesPut}

-- ---- a node's number, as the code has it

pub or_zero : (o : Option ℕ) → unwrap_or (item_of o) 0 ≡ count_or_zero o
or_zero none = refl
or_zero (some v) = refl

-- ---- the entries of a count list's nodes from entry i on

abbrev pub entries_from : List ℕ → List ℕ → ℕ → List Count
entries_from t counts i = entries_of t (nodes_of (counts_of (drop (2 * i) counts)))

pub entries_next : (t counts : List ℕ) (i : ℕ) → 2 * i + 1 < length counts
    → entries_from t counts i ≡ entries_of t (get_or counts (2 * i) 0 ∷ []) ++ entries_from t counts (i + 1)
unfolding nodes_of
entries_next t counts i l = ap (λ (cs : List Count). entries_of t (nodes_of cs)) (pairs_drop counted counts i l)

pub entries_end : (t counts : List ℕ) (i : ℕ) → length counts ≤ 2 * i + 1 → entries_from t counts i ≡ []
unfolding nodes_of
entries_end t counts i l = ap (λ (cs : List Count). entries_of t (nodes_of cs)) (pairs_end counted counts i l)

-- ---- words of entries

pub count_words_lem : (cs : List Count) → length (count_words cs) ≡ 2 * length cs
count_words_lem cs = words_length (λ (c : Count). c.node) (λ (c : Count). c.count) cs

pub words_on : (l : List ℕ) (n : ℕ) (cs ds : List Count) → sets l (2 * n) (count_words (cs ++ ds)) ≡ sets (sets l (2 * n) (count_words cs)) (2 * (n + length cs)) (count_words ds)
words_on l n cs ds =
    let w : length (count_words cs) ≡ 2 * length cs = count_words_lem cs in
    let i : 2 * n + length (count_words cs) ≡ 2 * (n + length cs) = omega arith in
    ap (λ (v : List ℕ). sets l (2 * n) v) (words_append (λ (c : Count). c.node) (λ (c : Count). c.count) cs ds)
    ∙ (sets_append l (2 * n) (count_words cs) (count_words ds) ∙ ap (λ (v : ℕ). sets (sets l (2 * n) (count_words cs)) v (count_words ds)) i)

pub words_none : (l : List ℕ) (i : ℕ) → sets l i (count_words []) ≡ l
unfolding pair_words
words_none l i = refl

-- an entry written, as two stores
pub entry_words : (t l : List ℕ) (i x v : ℕ) → v ≡ count_in_map t x → set (set l (2 * i) x) (2 * i + 1) v ≡ sets l (2 * i) (count_words (entries_of t (x ∷ [])))
unfolding pair_words
entry_words t l i x v e = rw (e, add-one (2 * i))

-- a list written from entry i on, one entry further
pub write_on : (t counts l l₁ : List ℕ) (i : ℕ) → 2 * i + 1 < length counts → l₁ ≡ sets l (2 * i) (count_words (entries_of t (get_or counts (2 * i) 0 ∷ [])))
    → sets l₁ (2 * (i + 1)) (count_words (entries_from t counts (i + 1))) ≡ sets l (2 * i) (count_words (entries_from t counts i))
write_on t counts l l₁ i h e =
    ap (λ (v : List ℕ). sets v (2 * (i + 1)) (count_words (entries_from t counts (i + 1)))) e
    ∙ (sym (words_on l i (entries_of t (get_or counts (2 * i) 0 ∷ [])) (entries_from t counts (i + 1)))
    ∙ ap (λ (cs : List Count). sets l (2 * i) (count_words cs)) (sym (entries_next t counts i h)))

pub write_end : (t counts l : List ℕ) (i : ℕ) → length counts ≤ 2 * i + 1 → sets l (2 * i) (count_words (entries_from t counts i)) ≡ l
write_end t counts l i h = ap (λ (cs : List Count). sets l (2 * i) (count_words cs)) (entries_end t counts i h) ∙ words_none l (2 * i)

-- the same of new nodes
pub new_on : (t news l l₁ : List ℕ) (at k : ℕ) → k < length news → l₁ ≡ sets l (2 * (at + k)) (count_words (entries_of t (get_or news k 0 ∷ [])))
    → sets l₁ (2 * (at + (k + 1))) (count_words (entries_of t (drop (k + 1) news))) ≡ sets l (2 * (at + k)) (count_words (entries_of t (drop k news)))
new_on t news l l₁ at k h e =
    let d : drop k news ≡ get_or news k 0 ∷ drop (k + 1) news = drop-cons news k 0 h ∙ ap (λ (n : ℕ). get_or news k 0 ∷ drop n news) (sym (add-one k)) in
    let i : at + k + 1 ≡ at + (k + 1) = omega arith in
    ap (λ (v : List ℕ). sets v (2 * (at + (k + 1))) (count_words (entries_of t (drop (k + 1) news)))) e
    ∙ (ap (λ (n : ℕ). sets (sets l (2 * (at + k)) (count_words (entries_of t (get_or news k 0 ∷ [])))) (2 * n) (count_words (entries_of t (drop (k + 1) news)))) (sym i)
    ∙ (sym (words_on l (at + k) (entries_of t (get_or news k 0 ∷ [])) (entries_of t (drop (k + 1) news)))
    ∙ ap (λ (ns : List ℕ). sets l (2 * (at + k)) (count_words (entries_of t ns))) (sym d)))

pub new_end : (t news l : List ℕ) (at k : ℕ) → length news ≤ k → sets l (2 * (at + k)) (count_words (entries_of t (drop k news))) ≡ l
new_end t news l at k h =
    ap (λ (ns : List ℕ). sets l (2 * (at + k)) (count_words (entries_of t ns))) (drop_of_length-le news h) ∙ words_none l (2 * (at + k))

-- ---- entries that are left

module _ (t : List ℕ) (x : ℕ) where
  pub left_none : count_in_map t x ≡ 0 → nonzero (entries_of t (x ∷ [])) ≡ []
  unfolding nonzero
  left_none e = rw (eq-eqb (count_in_map t x) 0 e, nonzero)

  pub left_one : (count_in_map t x ≡ 0 → ⊥) → nonzero (entries_of t (x ∷ [])) ≡ entries_of t (x ∷ [])
  unfolding nonzero
  left_one n = rw (ne_eqb (count_in_map t x) 0 n, nonzero)

abbrev pub left_from : List ℕ → List ℕ → ℕ → List Count
left_from t counts i = nonzero (entries_from t counts i)

pub left_next : (t counts : List ℕ) (i : ℕ) → 2 * i + 1 < length counts
    → left_from t counts i ≡ nonzero (entries_of t (get_or counts (2 * i) 0 ∷ [])) ++ left_from t counts (i + 1)
left_next t counts i l = ap nonzero (entries_next t counts i l) ∙ nonzero_append (entries_of t (get_or counts (2 * i) 0 ∷ [])) (entries_from t counts (i + 1))

pub left_end : (t counts : List ℕ) (i : ℕ) → length counts ≤ 2 * i + 1 → left_from t counts i ≡ []
unfolding nonzero
left_end t counts i l = ap nonzero (entries_end t counts i l)

pub left_size : (t counts : List ℕ) (i : ℕ) → 2 * i + 1 < length counts
    → length (left_from t counts i) ≡ length (nonzero (entries_of t (get_or counts (2 * i) 0 ∷ []))) + length (left_from t counts (i + 1))
left_size t counts i l = ap length (left_next t counts i l) ∙ length-append (nonzero (entries_of t (get_or counts (2 * i) 0 ∷ []))) (left_from t counts (i + 1))

pub entries_put_none : (t l : List ℕ) (n x : ℕ) → count_in_map t x ≡ 0 → EntriesPut l n (nonzero (entries_of t (x ∷ []))) l n
entries_put_none t l n x e = rw (left_none t x e) (record { count = omega arith; words = sym (words_none l (2 * n)) })

pub listed_one : (t l : List ℕ) (n x v : ℕ) → v ≡ count_in_map t x → (v ≡ 0 → ⊥) → EntriesPut l n (nonzero (entries_of t (x ∷ []))) (set (set l (2 * n) x) (2 * n + 1) v) (n + 1)
listed_one t l n x v e f = rw (left_one t x (λ (z : count_in_map t x ≡ 0). f (e ∙ z))) (record { count = omega arith; words = entry_words t l n x v e })

pub left_on : (t counts l l₁ : List ℕ) (i n k : ℕ) → 2 * i + 1 < length counts → EntriesPut l n (nonzero (entries_of t (get_or counts (2 * i) 0 ∷ []))) l₁ k
    → sets l₁ (2 * k) (count_words (left_from t counts (i + 1))) ≡ sets l (2 * n) (count_words (left_from t counts i))
left_on t counts l l₁ i n k h a =
    let one = nonzero (entries_of t (get_or counts (2 * i) 0 ∷ [])) in
    ap₂ (λ (v : List ℕ) (j : ℕ). sets v (2 * j) (count_words (left_from t counts (i + 1)))) a.words a.count
    ∙ (sym (words_on l n one (left_from t counts (i + 1))) ∙ ap (λ (cs : List Count). sets l (2 * n) (count_words cs)) (sym (left_next t counts i h)))

pub left_last : (t counts l : List ℕ) (i n : ℕ) → length counts ≤ 2 * i + 1 → sets l (2 * n) (count_words (left_from t counts i)) ≡ l
left_last t counts l i n h = ap (λ (cs : List Count). sets l (2 * n) (count_words cs)) (left_end t counts i h) ∙ words_none l (2 * n)

-- ---- slots

pub store_on : (spots s : List ℕ) (k : ℕ) → 2 * k + 1 < length spots
    → spots_stored (set s (get_or spots (2 * k) 0 - 1) (get_or spots (2 * k + 1) 0)) (spots_of (drop (2 * (k + 1)) spots)) ≡ spots_stored s (spots_of (drop (2 * k) spots))
unfolding spots_stored
store_on spots s k l = ap (spots_stored s) (sym (pairs_drop spot spots k l))

pub store_end : (spots s : List ℕ) (k : ℕ) → length spots ≤ 2 * k + 1 → spots_stored s (spots_of (drop (2 * k) spots)) ≡ s
unfolding spots_stored
store_end spots s k l = ap (spots_stored s) (pairs_end spot spots k l)

pub clear_on : (spots s : List ℕ) (k : ℕ) → 2 * k + 1 < length spots
    → spots_stored (set s (get_or spots (2 * k) 0 - 1) empty) (emptied (spots_of (drop (2 * (k + 1)) spots))) ≡ spots_stored s (emptied (spots_of (drop (2 * k) spots)))
unfolding spots_stored emptied
clear_on spots s k l = ap (λ (es : List Spot). spots_stored s (emptied es)) (sym (pairs_drop spot spots k l))

pub clear_end : (spots s : List ℕ) (k : ℕ) → length spots ≤ 2 * k + 1 → spots_stored s (emptied (spots_of (drop (2 * k) spots))) ≡ s
unfolding spots_stored emptied
clear_end spots s k l = ap (λ (es : List Spot). spots_stored s (emptied es)) (pairs_end spot spots k l)

pub left_one_size : (t : List ℕ) (x : ℕ) → (count_in_map t x ≡ 0 → ⊥) → length (nonzero (entries_of t (x ∷ []))) ≡ 1
left_one_size t x n = ap length (left_one t x n)

pub left_none_size : (t : List ℕ) (x : ℕ) → count_in_map t x ≡ 0 → length (nonzero (entries_of t (x ∷ []))) ≡ 0
left_none_size t x e = ap length (left_none t x e)
