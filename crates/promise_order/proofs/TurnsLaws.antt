-- Blocks that take turns over one memory of words, each with a private state. What a block's turn does depends on its private state and on words
-- that no turn changes, and it writes only words of its own. So, whatever the order of the turns, a block's private state and its own words are
-- those of the block run alone (`project`).
-- Assumes nothing.
use mathlib.Core.Path.{◌≡◌, refl, sym, ap, ◌∙◌, subst, fun_ext}
use mathlib.Core.Bool.{Bool, true, false}
use mathlib.Core.List.{List, [], ◌∷◌, ◌++◌}
use Prim.Native.Nat.{ℕ, zero, suc, ◌+◌, ◌-◌, ◌<◌}
use native.Mathlib.Decide.{ℕ_discrete}
use native.Mathlib.Nat.{zero-add, add-zero}
use native.Mathlib.Numerals.{one-add}
use native.Mathlib.Omega.{arith}
use lib.ListN.{length, get_or, set, length-set, replicate}
use lib.Seq.{get_or-set_same, get_or-set_other}
use Rattle.words.specs.Count.{same as hit, count}
use Rattle.words.proofs.CountLaws.{same_refl, same_not}
use Rattle.words.proofs.TestLaws.{not_true_false}

-- two memories of one size that agree on the words of F
pub record Same (F : ℕ → Type 0) (m m' : List ℕ) : Type 0 where
  pub size : length m ≡ length m'
  pub words : (w : ℕ) → F w → get_or m w 0 ≡ get_or m' w 0

-- no one of n blocks owns word w
abbrev pub Unowned : (own : ℕ → ℕ → Bool) → ℕ → ℕ → Type 0
Unowned own n w = (b : ℕ) → b < n → own b w ≡ false

-- ---- how often b stands in a list of turns

pub count_replicate : (b k : ℕ) → count b (replicate k b) ≡ k
unfolding count
count_replicate b zero = refl
count_replicate b (suc k) = omega (arith, same_refl b, count_replicate b k)

-- ---- every turn names one of n blocks

abbrev pub TurnNames : ℕ → List ℕ → Type 0
TurnNames n [] = Unit {0}
TurnNames n (t ∷ ts) = (t < n) × TurnNames n ts

pub names_of : (n : ℕ) (ts : List ℕ) → ((i : ℕ) → i < length ts → get_or ts i 0 < n) → TurnNames n ts
names_of n [] h = tt
names_of n (t ∷ ts) h = (h 0 (omega arith), names_of n ts (λ i l. h (suc i) (omega arith)))

pub names_at : (n : ℕ) (ts : List ℕ) → TurnNames n ts → (i : ℕ) → i < length ts → get_or ts i 0 < n
names_at n [] h i l = absurd (omega arith)
names_at n (t ∷ ts) h zero l = h.0
names_at n (t ∷ ts) h (suc i) l = names_at n ts h.1 i (omega arith)

pub names_append : (n : ℕ) (ts us : List ℕ) → TurnNames n ts → TurnNames n us → TurnNames n (ts ++ us)
names_append n [] us h k = k
names_append n (t ∷ ts) us h k = (h.0, names_append n ts us h.1 k)

pub names_replicate : (n k b : ℕ) → b < n → TurnNames n (replicate k b)
names_replicate n zero b h = tt
names_replicate n (suc k) b h = (h, names_replicate n k b h)

-- ---- the turns: `turn` is what a block's turn makes of its private state, `put` what it makes of the memory

module _ (P : Type 0) (nil : P) (turn : P → List ℕ → P) (put : P → List ℕ → List ℕ) where
  abbrev pub step : List P × List ℕ → ℕ → List P × List ℕ
  step s b = (set s.0 b (turn (get_or s.0 b nil) s.1), put (get_or s.0 b nil) s.1)

  abbrev pub run : List P × List ℕ → List ℕ → List P × List ℕ
  run s [] = s
  run s (b ∷ bs) = run (step s b) bs

  -- block b alone, k turns
  abbrev pub solo : List P × List ℕ → ℕ → ℕ → P × List ℕ
  solo s b zero = (get_or s.0 b nil, s.1)
  solo s b (suc k) = (turn (solo s b k).0 (solo s b k).1, put (solo s b k).0 (solo s b k).1)

  -- What makes n blocks independent. `Ok b p m`: block b alone can come to the private state p and the memory m; `own b w`: word w is b's; a turn sees
  -- words alone that are no block's; `left`: the turns that a private state still wants.
  pub record Independent (n : ℕ) (Ok : ℕ → P → List ℕ → Type 0) (own : ℕ → ℕ → Bool) (left : P → ℕ) : Type 0 where
    pub ok : (b : ℕ) (p : P) (m : List ℕ) → Ok b p m → Ok b (turn p m) (put p m)
    pub blind : (b : ℕ) (p : P) (m m' : List ℕ) → Ok b p m' → Same (Unowned own n) m m' → turn p m ≡ turn p m'
    pub word : (b : ℕ) (p : P) (m m' : List ℕ) (w : ℕ) → Ok b p m' → Same (Unowned own n) m m' → get_or m w 0 ≡ get_or m' w 0 → get_or (put p m) w 0 ≡ get_or (put p m') w 0
    pub frame : (b : ℕ) (p : P) (m m' : List ℕ) (w : ℕ) → Ok b p m' → own b w ≡ false → get_or (put p m) w 0 ≡ get_or m w 0
    pub size : (p : P) (m : List ℕ) → length (put p m) ≡ length m
    pub apart : (b c w : ℕ) → b < n → c < n → own b w ≡ true → own c w ≡ true → b ≡ c
    pub falls : (b : ℕ) (p : P) (m : List ℕ) → Ok b p m → left (turn p m) ≡ left p - 1

  module _ (Ok : ℕ → P → List ℕ → Type 0) (own : ℕ → ℕ → Bool) (left : P → ℕ) (s₀ : List P × List ℕ)
      (n : ℕ) (long : length s₀.0 ≡ n) (A : Independent n Ok own left) (ok₀ : (b : ℕ) → b < n → Ok b (get_or s₀.0 b nil) s₀.1) where
    pub solo_ok : (b k : ℕ) → b < n → Ok b (solo s₀ b k).0 (solo s₀ b k).1
    solo_ok b zero h = ok₀ b h
    solo_ok b (suc k) h = A.ok b _ _ (solo_ok b k h)

    solo-size : (b k : ℕ) → length (solo s₀ b k).1 ≡ length s₀.1
    solo-size b zero = refl
    solo-size b (suc k) = A.size _ _ ∙ solo-size b k

    solo-frame : (b k w : ℕ) → b < n → own b w ≡ false → get_or (solo s₀ b k).1 w 0 ≡ get_or s₀.1 w 0
    solo-frame b zero w h o = refl
    solo-frame b (suc k) w h o = A.frame b _ _ _ w (solo_ok b k h) o ∙ solo-frame b k w h o

    pub solo_left : (b k : ℕ) → b < n → left (solo s₀ b k).0 ≡ left (get_or s₀.0 b nil) - k
    solo_left b zero h = omega arith
    solo_left b (suc k) h = A.falls b _ _ (solo_ok b k h) ∙ omega (arith, solo_left b k h)

    -- after c b turns of each block b
    pub record Project (c : ℕ → ℕ) (s : List P × List ℕ) : Type 0 where
      pub blocks : length s.0 ≡ n
      pub size : length s.1 ≡ length s₀.1
      pub priv : (b : ℕ) → b < n → get_or s.0 b nil ≡ (solo s₀ b (c b)).0
      pub mine : (b w : ℕ) → b < n → own b w ≡ true → get_or s.1 w 0 ≡ get_or (solo s₀ b (c b)).1 w 0
      pub rest : (w : ℕ) → Unowned own n w → get_or s.1 w 0 ≡ get_or s₀.1 w 0

    same : (c : ℕ → ℕ) (s : List P × List ℕ) (b : ℕ) → b < n → Project c s → Same (Unowned own n) s.1 (solo s₀ b (c b)).1
    same c s b h I = record {
      size = I.size ∙ sym (solo-size b (c b));
      words = λ w k. I.rest w k ∙ sym (solo-frame b (c b) w h (k b h));
    }

    project-step : (c : ℕ → ℕ) (s : List P × List ℕ) (t : ℕ) → t < n → Project c s → Project (λ b. hit b t + c b) (step s t)
    project-step c s t h I = record {
      blocks = length-set s.0 t _ ∙ I.blocks;
      size = A.size _ _ ∙ I.size;
      priv = λ b k. priv' b k (ℕ_discrete b t);
      mine = λ b w k o. mine' b w k o (ℕ_discrete b t);
      rest = λ w k. frame w (k t h) ∙ I.rest w k;
    }
      where
        fine : Ok t (get_or s.0 t nil) (solo s₀ t (c t)).1
        fine = rw (I.priv t h) (solo_ok t (c t) h)

        frame : (w : ℕ) → own t w ≡ false → get_or (step s t).1 w 0 ≡ get_or s.1 w 0
        frame w o = A.frame t _ _ _ w fine o

        priv' : (b : ℕ) → b < n → Dec (b ≡ t) → get_or (step s t).0 b nil ≡ (solo s₀ b (hit b t + c b)).0
        priv' b k (yes e) =
            rw (e, same_refl t, one-add, get_or-set_same s.0 t (turn (get_or s.0 t nil) s.1) nil (omega (arith, I.blocks)), I.priv t h) (A.blind t _ _ _ (solo_ok t (c t) h) (same c s t h I))
        priv' b k (no e) = rw (same_not b t e, zero-add, get_or-set_other s.0 t b (turn (get_or s.0 t nil) s.1) nil e) (I.priv b k)

        mine' : (b w : ℕ) → b < n → own b w ≡ true → Dec (b ≡ t) → get_or (step s t).1 w 0 ≡ get_or (solo s₀ b (hit b t + c b)).1 w 0
        mine' b w k o (yes e) =
            rw (e, same_refl t, one-add)
            (ap (λ p. get_or (put p s.1) w 0) (I.priv t h) ∙ A.word t _ _ _ w (solo_ok t (c t) h) (same c s t h I) (I.mine t w h (rw e at o)))
        mine' b w k o (no e) = rw (same_not b t e, zero-add) (frame w (not_true_false (own t w) (λ o'. e (A.apart b t w k h o o'))) ∙ I.mine b w k o)

    project-run : (c : ℕ → ℕ) (s : List P × List ℕ) (ts : List ℕ) → TurnNames n ts → Project c s → Project (λ b. count b ts + c b) (run s ts)
    unfolding count
    project-run c s [] h I = rw (fun_ext (λ b. zero-add (c b))) I
    project-run c s (t ∷ ts) h I =
        subst (λ f. Project f (run (step s t) ts)) (fun_ext e) (project-run (λ b. hit b t + c b) (step s t) ts h.1 (project-step c s t h.0 I))
      where
        e : (b : ℕ) → count b ts + (hit b t + c b) ≡ (hit b t + count b ts) + c b
        e b = omega arith

    -- after any turns each block's private state and words are those of the block alone, after its own turns
    pub project : (ts : List ℕ) → TurnNames n ts → Project (λ b. count b ts) (run s₀ ts)
    project ts h = subst (λ f. Project f (run s₀ ts)) (fun_ext (λ b. add-zero (count b ts))) (project-run (λ b. 0) s₀ ts h start)
      where
        start : Project (λ b. 0) s₀
        start = record { blocks = long; size = refl; priv = λ b h. refl; mine = λ b w h o. refl; rest = λ w h. refl }
