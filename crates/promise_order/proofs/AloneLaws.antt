-- A block alone: its parts one after the other, each read, worked and stored, and what its words hold by then. Its turns see words that no
-- part stores and write words of its own alone, so a run's turns leave each block as if it had been alone (`ran`).
-- Assumes nothing.
use mathlib.Core.Path.{◌≡◌, refl, sym, ap, ◌∙◌, subst}
use mathlib.Core.Bool.{Bool, true, false}
use mathlib.Core.List.{List, [], ◌∷◌}
use mathlib.Core.Logic.{◌⊎◌, inl, inr, ⊎_elim}
use mathlib.Core.Option.{none}
use Prim.Native.Nat.{ℕ, zero, suc, ◌+◌, ◌-◌, ◌≤◌, ◌<◌}
use native.Mathlib.Nat.{add-zero, zero-add}
use native.Mathlib.Omega.{arith}
use borrow.Author.Tests.{eq-eqb, ne_eqb}
use lib.ListN.{length, get_or}
use Rattle.words.proofs.BitLaws.{lt_or_ge}
use Rattle.words.specs.Tests.{some_below}
use Rattle.words.proofs.TestLaws.{not_both, not_true_false, some_found, some_at}
use Rattle.run_machine.specs.Part.{stages_at, last_at, end_at}
use Rattle.run_machine.specs.Turn.{read_row, finished, Block, begins, ended}
use Rattle.run_machine.specs.Run.{Running, blocks_from, step, run_from, run_turns, turns_from, turns_after, turns_left, bad_block}
use Rattle.promise_order.specs.Order.{parts_from, parts_at, captured_by, block_turns, stores_at, Stores, store_word, PartAt, Unstored, Apart}
use Rattle.promise_order.proofs.BlockPartsLaws.{PartsFormed, Chain, form_chain, part_first_lem, Ith, ith_part, after_last, after_more, turns_split}
use Rattle.promise_order.proofs.StoreTurnLaws.{putPart, put_size, store_other, store_same}
use Rattle.words.specs.Count.{count}
use Rattle.promise_order.proofs.TurnsLaws.{Same, Unowned, TurnNames, Independent, Project}
use Rattle.promise_order.proofs.TurnsLaws as Turns
use Rattle.promise_order.proofs.PartTurnLaws.{row_same, staged, empty_phase, ended_phase, turn_of, put_of, turn_read, put_read, turn_stage, put_stage, turn_store, turn_last, turn_more, put_store, turn_none, put_none, left_of, left_read, left_stage, left_none, written_size}

-- ---- what the theorems ask for: blocks in form for a new state of t words, and kept apart

pub record Laid (n : ℕ) (W starts : List ℕ) (s t : ℕ) (new : List ℕ) : Type 0 where
  pub form : bad_block n W starts s t ≡ none
  pub size : length new ≡ t
  pub apart : Apart n W starts (length starts - 1)

module _ (n H : ℕ) (W starts : List ℕ) (s t : ℕ) (old new : List ℕ) (laid : Laid n W starts s t new) where
  abbrev m : ℕ
  m = length starts - 1

  abbrev parts_of : ℕ → List ℕ
  parts_of b = parts_at n W (get_or starts b 0)

  abbrev Part : ℕ → ℕ → ℕ → Type 0
  Part b i o = PartAt n W starts m b i o

  -- what the part at o captures
  abbrev caps : ℕ → List ℕ
  caps o = captured_by n H W o old new

  -- ---- the parts of a block

  empty-parts : (b : ℕ) → stages_at W (get_or starts b 0) ≡ 0 → length (parts_of b) ≡ 0
  unfolding parts_at
  empty-parts b e = rw (eq-eqb (stages_at W (get_or starts b 0)) 0 e, parts_at)

  some-parts : (b : ℕ) → 1 ≤ stages_at W (get_or starts b 0) → parts_of b ≡ parts_from n W (length W) (get_or starts b 0)
  unfolding parts_at
  some-parts b h = rw (ne_eqb (stages_at W (get_or starts b 0)) 0 (λ e. omega arith), parts_at)

  chain-formed : (f o : ℕ) → Chain n W t f o → PartsFormed W t o × ((last_at W o ≡ 1) ⊎ (last_at W o ≡ 0))
  chain-formed zero o c = absurd c
  chain-formed (suc f) o c = (c.0, ⊎_elim (λ e. inl e) (λ e. inr e.0) c.1)

  ith : (b i : ℕ) → b < m → i < length (parts_of b) → Ith n W t (parts_of b) (length W) i
  ith b i h l = ⊎_elim
      (λ e. absurd (omega (arith, empty-parts b e)))
      (λ c.
      let e = some-parts b (chain-formed (length W) (get_or starts b 0) c).0.stages in
      subst (λ os. Ith n W t os (length W) i) (sym e) (ith_part n W t (length W) (get_or starts b 0) i c (subst (λ os. i < length os) e l)))
      (form_chain n W starts s t b laid.form h)

  -- the i-th part of block b is its last, or there is a next one, at its end
  record Known (b i o : ℕ) : Type 0 where
    pub formed : PartsFormed W t o
    pub next : ((last_at W o ≡ 1) × (length (parts_of b) ≡ suc i))
        ⊎ ((last_at W o ≡ 0) × Part b (suc i) (end_at n W o) × (turns_after n W o ≡ stages_at W (end_at n W o) + 2 + turns_after n W (end_at n W o)))

  known : (b i o : ℕ) → Part b i o → Known b i o
  known b i o q =
      let I = ith b i q.block q.inside in
      let (formed, last) = chain-formed I.fuel (get_or (parts_of b) i 0) I.chain in
      subst (λ x. Known b i x) (sym q.at) (record {
        formed = formed;
        next = ⊎_elim
            (λ e. inl (e, I.ends e))
            (λ e.
            let (more, at) = I.goes e in
            let J = ith b (suc i) q.block more in
            let split = turns_split n W t J.fuel (get_or (parts_of b) (suc i) 0) J.chain J.fewer in
            inr (e, record { block = q.block; inside = more; at = at }, after_more n W t _ e ∙ subst (λ x. turns_from n W (length W) x ≡ stages_at W x + 2 + turns_after n W x) (sym at) split))
            last;
      })

  -- ---- the words of a block

  own : ℕ → ℕ → Bool
  own b w = some_below (λ i. stores_at W (get_or (parts_of b) i 0) w) (length (parts_of b))

  owns : (b i o w : ℕ) → Part b i o → Stores W o w → own b w ≡ true
  unfolding own
  owns b i o w q h =
      some_at (λ i. stores_at W (get_or (parts_of b) i 0) w) (length (parts_of b)) i q.inside (subst (λ x. Stores W x w) q.at h)

  record Owner (b w : ℕ) : Type 0 where
    pub i : ℕ
    pub o : ℕ
    pub part : Part b i o
    pub stores : Stores W o w

  owner : (b w : ℕ) → b < m → own b w ≡ true → Owner b w
  unfolding own
  owner b w h e =
      let (i, l, k) = some_found (λ i. stores_at W (get_or (parts_of b) i 0) w) (length (parts_of b)) e in
      record { i = i; o = get_or (parts_of b) i 0; part = record { block = h; inside = l; at = refl }; stores = k }

  -- a word that no part stores is no block's
  abbrev Free : ℕ → Type 0
  Free w = Unowned own m w

  free : (w : ℕ) → Unstored n W starts m w → Free w
  free w f b h = not_true_false (own b w) (λ e. let q = owner b w h e in f b q.i q.o q.part q.stores)

  -- ---- the read turn and the store turn of a part

  row_is : (b i o : ℕ) → Part b i o → (k k' : List ℕ) → Same Free k k' → read_row n W o old k ≡ read_row n W o old k'
  row_is b i o q k k' S = row_same n W o old k k' (λ r l hr hl hm hw. S.words _ (free _ (laid.apart.reads b i o q r l hr hl hm hw)))

  -- the new state after the store turn of the part at o
  abbrev put : ℕ → List ℕ → List ℕ
  put o k = putPart n W o old (caps o) k

  put_other : (o w : ℕ) (k : List ℕ) → (Stores W o w → ⊥) → get_or (put o k) w 0 ≡ get_or k w 0
  put_other o w k h = store_other n W o old (caps o) k w h

  put_same : (b i o w : ℕ) (k : List ℕ) → Part b i o → length k ≡ t → Stores W o w → get_or (put o k) w 0 ≡ store_word n W o old (caps o) w
  put_same b i o w k q e st = store_same n W o old (caps o) k w st (omega (arith, (known b i o q).formed.inside w st))

  put_word : (b i o w : ℕ) (k k' : List ℕ) → Part b i o → length k ≡ t → length k' ≡ t → get_or k w 0 ≡ get_or k' w 0 → get_or (put o k) w 0 ≡ get_or (put o k') w 0
  put_word b i o w k k' q e e' h = go (stores_at W o w) refl
    where
      go : (v : Bool) → stores_at W o w ≡ v → get_or (put o k) w 0 ≡ get_or (put o k') w 0
      go true v = put_same b i o w k q e v ∙ sym (put_same b i o w k' q e' v)
      go false v =
          let not : Stores W o w → ⊥ = λ st. not_both (stores_at W o w) st v in
          put_other o w k not ∙ h ∙ sym (put_other o w k' not)

  -- ---- a block alone

  -- the parts of block b before the i-th have stored
  abbrev Held : ℕ → ℕ → List ℕ → Type 0
  Held b i k = (j o w : ℕ) → Part b j o → j < i → Stores W o w → get_or k w 0 ≡ store_word n W o old (caps o) w

  -- the block after the read turn and j stages of the part at o
  abbrev staging : ℕ → ℕ → Block
  staging o j = staged n H W o (read_row n W o old new) j

  -- what a block does next, at its i-th part: read, a stage, store, nothing
  data Now (b i : ℕ) (p : Block) : Type 0 where
    reads : (o : ℕ) → Part b i o → p ≡ begins W o → Now b i p
    works : (o j : ℕ) → Part b i o → j < stages_at W o → p ≡ staging o j → Now b i p
    puts : (o : ℕ) → Part b i o → p ≡ staging o (stages_at W o) → Now b i p
    rests : p.phase ≡ finished → length (parts_of b) ≤ i → Now b i p

  record Ok (b : ℕ) (p : Block) (k : List ℕ) : Type 0 where
    pub same : Same Free k new
    pub index : ℕ
    pub held : Held b index k
    pub now : Now b index p

  abbrev turn : Block → List ℕ → Block
  turn p k = turn_of n H W old p k

  abbrev write : Block → List ℕ → List ℕ
  write p k = put_of n H W old p k

  abbrev left : Block → ℕ
  left p = left_of n W p

  -- after j stages: a stage, or the store turn
  stage-or-store : (b i o j : ℕ) → Part b i o → j ≤ stages_at W o → Now b i (staging o j)
  stage-or-store b i o j q h = ⊎_elim
      (λ l. works o j q l refl)
      (λ l. puts o q (ap (staging o) (omega arith)))
      (lt_or_ge j (stages_at W o))

  same_new : (k : List ℕ) → Same Free k new → length k ≡ t
  same_new k S = S.size ∙ laid.size

  put-held : (b i o : ℕ) (k : List ℕ) → Part b i o → Same Free k new → Held b i k → Held b (suc i) (put o k)
  put-held b i o k q S kept j e w r h g = ⊎_elim
      (λ d. put_other o w k (λ st. omega (arith, (laid.apart.apart b i o b j e w q r st g).1)) ∙ kept j e w r d g)
      (λ d.
      let is : j ≡ i = omega arith in
      let at : e ≡ o = r.at ∙ ap (λ (x : ℕ). get_or (parts_of b) x 0) is ∙ sym q.at in
      put_same b i o w k q (same_new k S) (subst (λ x. Stores W x w) at g) ∙ ap (λ (x : ℕ). store_word n W x old (caps x) w) (sym at))
      (lt_or_ge j i)

  put_free : (b i o : ℕ) (k : List ℕ) → Part b i o → Same Free k new → Same Free (put o k) new
  put_free b i o k q S = record {
    size = put_size n W o old (caps o) k ∙ S.size;
    words = λ w f. put_other o w k (λ st. not_both (own b w) (owns b i o w q st) (f b q.block)) ∙ S.words w f;
  }

  -- ---- each turn

  turn-reads : (b i o : ℕ) (p : Block) (k : List ℕ) → Part b i o → p ≡ begins W o → turn p k ≡ staged n H W o (read_row n W o old k) 0
  turn-reads b i o p k q e = ap (λ x. turn x k) e ∙ turn_read n H W old o k (known b i o q).formed.stages

  write-reads : (b i o : ℕ) (p : Block) (k : List ℕ) → Part b i o → p ≡ begins W o → write p k ≡ k
  write-reads b i o p k q e = ap (λ x. write x k) e ∙ put_read n H W old o k (known b i o q).formed.stages

  turn-works : (o j : ℕ) (p : Block) (k : List ℕ) → j < stages_at W o → p ≡ staging o j → turn p k ≡ staging o (suc j)
  turn-works o j p k h e = ap (λ x. turn x k) e ∙ turn_stage n H W old o _ j k h

  write-works : (o j : ℕ) (p : Block) (k : List ℕ) → j < stages_at W o → p ≡ staging o j → write p k ≡ k
  write-works o j p k h e = ap (λ x. write x k) e ∙ put_stage n H W old o _ j k h

  write-puts : (o : ℕ) (p : Block) (k : List ℕ) → p ≡ staging o (stages_at W o) → write p k ≡ put o k
  write-puts o p k e = ap (λ x. write x k) e ∙ put_store n H W old o _ k

  -- after the store turn: finished, or at the next part
  turn-puts : (b i o : ℕ) (p : Block) (k : List ℕ) → Part b i o → p ≡ staging o (stages_at W o) → Now b (suc i) (turn p k)
  turn-puts b i o p k q e = ⊎_elim
      (λ x. rests (ap (λ y. (turn y k).phase) e ∙ ap (λ y. y.phase) (turn_last n H W old o _ k x.0) ∙ ended_phase o) (omega arith))
      (λ x. reads (end_at n W o) x.1 (ap (λ y. turn y k) e ∙ turn_more n H W old o _ k x.0))
      (known b i o q).next

  left-puts : (b i o : ℕ) (p : Block) (k : List ℕ) → Part b i o → p ≡ staging o (stages_at W o) → left (turn p k) ≡ turns_after n W o
  left-puts b i o p k q e = ap (λ x. left (turn x k)) e ∙ ⊎_elim
      (λ x. ap left (turn_last n H W old o _ k x.0) ∙ left_none n W (ended o) (ended_phase o) ∙ sym (after_last n W t o x.0))
      (λ x. ap left (turn_more n H W old o _ k x.0) ∙ left_read n W (end_at n W o) (known b (suc i) (end_at n W o) x.1).formed.stages ∙ sym x.2)
      (known b i o q).next

  -- ---- a block's turn keeps what is known of it, sees words alone that no part stores, and writes its own words alone

  turn-ok : (b : ℕ) (p : Block) (k : List ℕ) → Ok b p k → Ok b (turn p k) (write p k)
  turn-ok b p k a = go a.now
    where
      go : Now b a.index p → Ok b (turn p k) (write p k)
      go (reads o q e) =
          rw (turn-reads b a.index o p k q e, write-reads b a.index o p k q e, row_is b a.index o q k new a.same)
          (record { same = a.same; index = a.index; held = a.held; now = stage-or-store b a.index o 0 q (omega arith) })
      go (works o j q h e) =
          rw (turn-works o j p k h e, write-works o j p k h e)
          (record { same = a.same; index = a.index; held = a.held; now = stage-or-store b a.index o (suc j) q h })
      go (puts o q e) =
          rw (write-puts o p k e)
          (record { same = put_free b a.index o k q a.same; index = suc a.index; held = put-held b a.index o k q a.same a.held; now = turn-puts b a.index o p k q e })
      go (rests e h) = rw (turn_none n H W old p k e, put_none n H W old p k e) a

  turn-blind : (b : ℕ) (p : Block) (k k' : List ℕ) → Ok b p k' → Same Free k k' → turn p k ≡ turn p k'
  turn-blind b p k k' a S = go a.now
    where
      go : Now b a.index p → turn p k ≡ turn p k'
      go (reads o q e) =
          turn-reads b a.index o p k q e ∙ ap (λ row. staged n H W o row 0) (row_is b a.index o q k k' S) ∙ sym (turn-reads b a.index o p k' q e)
      go (works o j q h e) = turn-works o j p k h e ∙ sym (turn-works o j p k' h e)
      go (puts o q e) = ap (λ x. turn x k) e ∙ turn_store n H W old o _ k ∙ sym (turn_store n H W old o _ k') ∙ sym (ap (λ x. turn x k') e)
      go (rests e h) = turn_none n H W old p k e ∙ sym (turn_none n H W old p k' e)

  turn-word : (b : ℕ) (p : Block) (k k' : List ℕ) (w : ℕ) → Ok b p k' → Same Free k k' → get_or k w 0 ≡ get_or k' w 0 → get_or (write p k) w 0 ≡ get_or (write p k') w 0
  turn-word b p k k' w a S d = go a.now
    where
      go : Now b a.index p → get_or (write p k) w 0 ≡ get_or (write p k') w 0
      go (reads o q e) = rw (write-reads b a.index o p k q e, write-reads b a.index o p k' q e) d
      go (works o j q h e) = rw (write-works o j p k h e, write-works o j p k' h e) d
      go (puts o q e) =
          rw (write-puts o p k e, write-puts o p k' e)
          (put_word b a.index o w k k' q (S.size ∙ same_new k' a.same) (same_new k' a.same) d)
      go (rests e h) = rw (put_none n H W old p k e, put_none n H W old p k' e) d

  turn-frame : (b : ℕ) (p : Block) (k k' : List ℕ) (w : ℕ) → Ok b p k' → own b w ≡ false → get_or (write p k) w 0 ≡ get_or k w 0
  turn-frame b p k k' w a d = go a.now
    where
      go : Now b a.index p → get_or (write p k) w 0 ≡ get_or k w 0
      go (reads o q e) = rw (write-reads b a.index o p k q e)
      go (works o j q h e) = rw (write-works o j p k h e)
      go (puts o q e) = rw (write-puts o p k e) (put_other o w k (λ st. not_both (own b w) (owns b a.index o w q st) d))
      go (rests e h) = rw (put_none n H W old p k e)

  turn-size : (p : Block) (k : List ℕ) → length (write p k) ≡ length k
  turn-size p k = written_size W n old p.phase p k

  -- one turn fewer is left
  turn-falls : (b : ℕ) (p : Block) (k : List ℕ) → Ok b p k → left (turn p k) ≡ left p - 1
  turn-falls b p k a = go a.now
    where
      go : Now b a.index p → left (turn p k) ≡ left p - 1
      go (reads o q e) =
          ap left (turn-reads b a.index o p k q e)
          ∙ left_stage n H W o _ 0 (omega arith)
          ∙ omega (arith, ap left e ∙ left_read n W o (known b a.index o q).formed.stages)
      go (works o j q h e) =
          ap left (turn-works o j p k h e) ∙ left_stage n H W o _ (suc j) h ∙ omega (arith, ap left e ∙ left_stage n H W o _ j (omega arith))
      go (puts o q e) = left-puts b a.index o p k q e ∙ omega (arith, ap left e ∙ left_stage n H W o _ (stages_at W o) (omega arith))
      go (rests e h) = ap left (turn_none n H W old p k e) ∙ omega (arith, left_none n W p e)

  independent : Independent Block (ended 0) turn write m Ok own left
  independent = record {
    ok = turn-ok;
    blind = turn-blind;
    word = turn-word;
    frame = turn-frame;
    size = turn-size;
    apart = λ b c w h l e d. let q = owner b w h e in let r = owner c w l d in (laid.apart.apart b q.i q.o c r.i r.o w q.part r.part q.stores r.stores).0;
    falls = turn-falls;
  }

  -- nothing left: each of its parts has stored
  rests-of : (b i : ℕ) (p : Block) → Now b i p → left p ≡ 0 → length (parts_of b) ≤ i
  rests-of b i p (reads o q e) z = absurd (omega (arith, ap left e ∙ left_read n W o (known b i o q).formed.stages))
  rests-of b i p (works o j q h e) z = absurd (omega (arith, ap left e ∙ left_stage n H W o _ j (omega arith)))
  rests-of b i p (puts o q e) z = absurd (omega (arith, ap left e ∙ left_stage n H W o _ (stages_at W o) (omega arith)))
  rests-of b i p (rests e h) z = h

  -- ---- the run

  starting : List Block × List ℕ
  starting = (blocks_from W starts m 0, new)

  blocks-length : (k i : ℕ) → length (blocks_from W starts k i) ≡ k
  unfolding blocks_from
  blocks-length zero i = refl
  blocks-length (suc k) i = ap suc (blocks-length k (i + 1))

  blocks_at : (k i b : ℕ) → b < k → get_or (blocks_from W starts k i) b (ended 0) ≡ begins W (get_or starts (i + b) 0)
  unfolding blocks_from
  blocks_at zero i b h = absurd (omega arith)
  blocks_at (suc k) i zero h = rw add-zero
  blocks_at (suc k) i (suc b) h = let e : i + 1 + b ≡ i + suc b = omega arith in blocks_at k (i + 1) b (omega arith) ∙ ap (λ (x : ℕ). begins W (get_or starts x 0)) e

  started : (b : ℕ) → b < m → get_or (blocks_from W starts m 0) b (ended 0) ≡ begins W (get_or starts b 0)
  started b h = blocks_at m 0 b h ∙ ap (λ (x : ℕ). begins W (get_or starts x 0)) (zero-add b)

  start-now : (b : ℕ) → b < m → Now b 0 (begins W (get_or starts b 0))
  start-now b h = ⊎_elim
      (λ e. rests (empty_phase W (get_or starts b 0) e) (omega (arith, empty-parts b e)))
      (λ c.
      let is = some-parts b (chain-formed (length W) (get_or starts b 0) c).0.stages in
      let (some, at) = part_first_lem n W t (length W) (get_or starts b 0) c in
      reads (get_or starts b 0) (record { block = h; inside = subst (λ os. 0 < length os) (sym is) some; at = subst (λ os. get_or starts b 0 ≡ get_or os 0 0) (sym is) at }) refl)
      (form_chain n W starts s t b laid.form h)

  start-ok : (b : ℕ) → b < m → Ok b (get_or starting.0 b (ended 0)) starting.1
  unfolding starting
  start-ok b h = rw (started b h) (record {
    same = record { size = refl; words = λ w l. refl };
    index = 0;
    held = λ j o l q c. absurd (omega arith);
    now = start-now b h;
  })

  run_new : (x : Running) (ts : List ℕ) → (run_from n H W old x ts).new ≡ (Turns.run Block (ended 0) turn write (x.blocks, x.new) ts).1
  unfolding run_from step
  run_new x [] = refl
  run_new x (b ∷ ts) = run_new (step n H W old x b) ts

  run-blocks : (x : Running) (ts : List ℕ) → (run_from n H W old x ts).blocks ≡ (Turns.run Block (ended 0) turn write (x.blocks, x.new) ts).0
  unfolding run_from step
  run-blocks x [] = refl
  run-blocks x (b ∷ ts) = run-blocks (step n H W old x b) ts

  long : length starting.0 ≡ m
  unfolding starting
  long = blocks-length m 0

  -- ---- what a run leaves, done or not

  pub record Ran (turns : List ℕ) (x : Running) : Type 0 where
    pub blocks : length x.blocks ≡ length starts - 1
    pub size : length x.new ≡ length new
    pub turns_left_lem : (b : ℕ) → b < length starts - 1
        → turns_left n W (get_or x.blocks b (ended 0)).phase (get_or x.blocks b (ended 0)) ≡ block_turns n W (get_or starts b 0) - count b turns
    pub finished : (b i o w : ℕ) → PartAt n W starts (length starts - 1) b i o → Stores W o w
        → turns_left n W (get_or x.blocks b (ended 0)).phase (get_or x.blocks b (ended 0)) ≡ 0
        → get_or x.new w 0 ≡ store_word n W o old (captured_by n H W o old new) w
    pub rest : (w : ℕ) → Unstored n W starts (length starts - 1) w → get_or x.new w 0 ≡ get_or new w 0

  pub ran : (turns : List ℕ) → TurnNames (length starts - 1) turns → Ran turns (run_turns n H W starts turns old new)
  unfolding starting
  ran ts h = record {
    blocks = ap length blocks-are ∙ I.blocks;
    size = ap length new_is ∙ I.size;
    turns_left_lem = λ b l. ap left (priv b l) ∙ Turns.solo_left Block (ended 0) turn write Ok own left starting m long independent start-ok b (count b ts) l ∙ ap (λ p. left p - count b ts) (started b l);
    finished = λ b i o w q g z.
        let a = Turns.solo_ok Block (ended 0) turn write Ok own left starting m long independent start-ok b (count b ts) q.block in
        let all = rests-of b a.index _ a.now (ap left (sym (priv b q.block)) ∙ z) in
        ap (λ k. get_or k w 0) new_is ∙ I.mine b w q.block (owns b i o w q g) ∙ a.held i o w q (omega (arith, q.inside)) g;
    rest = λ w f. ap (λ k. get_or k w 0) new_is ∙ I.rest w (free w f);
  }
    where
      I : Project Block (ended 0) turn write Ok own left starting m long independent start-ok (λ b. count b ts) (Turns.run Block (ended 0) turn write starting ts)
      I = Turns.project Block (ended 0) turn write Ok own left starting m long independent start-ok ts h

      new_is : (run_turns n H W starts ts old new).new ≡ (Turns.run Block (ended 0) turn write starting ts).1
      new_is = run_new (record { blocks = blocks_from W starts m 0; new = new }) ts

      blocks-are : (run_turns n H W starts ts old new).blocks ≡ (Turns.run Block (ended 0) turn write starting ts).0
      blocks-are = run-blocks (record { blocks = blocks_from W starts m 0; new = new }) ts

      priv : (b : ℕ) → b < m → get_or (run_turns n H W starts ts old new).blocks b (ended 0) ≡ (Turns.solo Block (ended 0) turn write starting b (count b ts)).0
      priv b l = ap (λ ps. get_or ps b (ended 0)) blocks-are ∙ I.priv b l

  -- ---- a word is stored by a part, or by none

  pub record Storer (w : ℕ) : Type 0 where
    pub b : ℕ
    pub i : ℕ
    pub o : ℕ
    pub part : PartAt n W starts (length starts - 1) b i o
    pub stores : Stores W o w

  pub storer : (w : ℕ) → Storer w ⊎ Unstored n W starts (length starts - 1) w
  storer w = go (some_below (λ b. own b w) m) refl
    where
      go : (v : Bool) → some_below (λ b. own b w) m ≡ v → Storer w ⊎ Unstored n W starts m w
      go true e =
          let (b, h, d) = some_found (λ b. own b w) m e in
          let q = owner b w h d in
          inl (record { b = b; i = q.i; o = q.o; part = q.part; stores = q.stores })
      go false e = inr (λ b i o q st. not_both (some_below (λ b. own b w) m) (some_at (λ b. own b w) m b q.block (owns b i o w q st)) e)
