-- How the ways end: entering ends well just where the list is in form, and the map then holds its counts; raising holds the counts after a placing, or some count
-- passes 2^32−1; lowering holds the counts after a clearing, or some node's count is less than its times. By induction on what is gone through.
-- Assumes nothing.
use mathlib.Core.Path.{◌≡◌, refl, sym, ap, ◌∙◌}
use mathlib.Core.Bool.{Bool, true, false, ◌&&◌, and-false}
use mathlib.Core.Option.{Option, none, some}
use mathlib.Core.Logic.{◌⊎◌, inl, inr, ⊎_elim}
use mathlib.Core.List.{List, [], ◌∷◌, ◌++◌, append_assoc, append-nil}
use Prim.Native.Nat.{ℕ, ◌+◌, ◌-◌, ◌/◌, ◌^◌, ◌≤◌, ◌<◌}
use native.Mathlib.Omega.{arith}
use borrow.Author.Tests.{lt-ltb, le-ltb, ltb-true, ltb-false, eqb-true, eqb-false}
use lib.Dec.{eqb, ltb}
use lib.ListN.{length, length-append}
use Rattle.pinmap.specs.PinMap.{capacity, look, put_in}
use Rattle.pinmap.proofs.PinMapLaws.{put_length}
use Rattle.words.specs.Pins.{is_pin}
use Rattle.words.proofs.TestLaws.{not_both}
use Rattle.repair_nodes.specs.CountList.{Count, nodes_of, among, times_among, entries_right, count_in, fresh}
use Rattle.repair_nodes.proofs.JudgeLaws.{or_parts}
use Rattle.repair_nodes.proofs.CountListLaws.{among_append, among_head, among_tail, times_among_here, times_there, times_among_nil, fresh_old, fresh_new, nodes_snoc, count_skip, count_head, count_other}
use Rattle.repair_tally.specs.Tally.{through, entering, Raised, raised, raising, lowering, MapHolds}
use Rattle.repair_tally.proofs.TallyStepLaws.{through_end, through_on, through_none, lower_missing, lower_zero, lower_there}
use Rattle.repair_tally.proofs.HeldLaws.{held_some, held_none, held_ext, held_add, held_set, times_two}

-- ---- one node's times

one_or_none : (x y : ℕ) → ((x ≡ y) × (times_among (x ∷ []) y ≡ 1)) ⊎ ((x ≡ y → ⊥) × (times_among (x ∷ []) y ≡ 0))
one_or_none x y = go (eqb x y) refl
  where
    go : (b : Bool) → eqb x y ≡ b → ((x ≡ y) × (times_among (x ∷ []) y ≡ 1)) ⊎ ((x ≡ y → ⊥) × (times_among (x ∷ []) y ≡ 0))
    go true e = let k : x ≡ y = eqb-true x y e in inl (k, times_among_here [] x y k ∙ omega (arith, times_among_nil y))
    go false e = let k : x ≡ y → ⊥ = eqb-false x y e in inr (k, times_there [] x y k ∙ times_among_nil y)

times_own : (x : ℕ) (xs : List ℕ) → 1 ≤ times_among (x ∷ xs) x
times_own x xs = omega (arith, times_among_here xs x x refl)

-- the room for one more is kept by a put
put_capacity : (t : List ℕ) (p v : ℕ) → capacity (put_in t p v) ≡ capacity t
put_capacity t p v = ap (λ (n : ℕ). n / 2) (put_length t p v)

-- which way a look went, from whether the node is held
look_cases : (t names : List ℕ) (value : ℕ → ℕ) (n x : ℕ) → MapHolds t names value n
    → ((among names x ≡ true) × (look t x ≡ some (value x))) ⊎ ((among names x ≡ false) × (look t x ≡ none))
look_cases t names value n x h = go (among names x) refl
  where
    go : (b : Bool) → among names x ≡ b → ((among names x ≡ true) × (look t x ≡ some (value x))) ⊎ ((among names x ≡ false) × (look t x ≡ none))
    go true e = inl (e, held_some t names value n h x e)
    go false e = inr (e, held_none t names value n h x e)

-- ---- entering

abbrev pub EnterEnd : Option (List ℕ) → List Count → List Count → Type 0
EnterEnd (some t) bs cs = (entries_right (nodes_of bs) cs ≡ true) × MapHolds t (nodes_of (bs ++ cs)) (count_in (bs ++ cs)) (length (bs ++ cs))
EnterEnd none bs cs = entries_right (nodes_of bs) cs ≡ false

module _ (ns : List ℕ) (c : Count) (cs : List Count) where
  entry-test : (is_pin c.node && ltb 0 c.count) ≡ false → entries_right ns (c ∷ cs) ≡ false
  unfolding entries_right
  entry-test e = rw e

  entry-twice : among ns c.node ≡ true → entries_right ns (c ∷ cs) ≡ false
  unfolding entries_right
  entry-twice e = rw (e, and-false (is_pin c.node && ltb 0 c.count))

  entry-on : (is_pin c.node && ltb 0 c.count) ≡ true → among ns c.node ≡ false → entries_right ns (c ∷ cs) ≡ entries_right (ns ++ (c.node ∷ [])) cs
  unfolding entries_right
  entry-on e f = rw (e, f)

module _ (t : List ℕ) (c : Count) where
  enter-test : (is_pin c.node && ltb 0 c.count) ≡ false → entering t c ≡ none
  unfolding entering
  enter-test e = rw (e, entering)

  enter-taken : (v : ℕ) → (is_pin c.node && ltb 0 c.count) ≡ true → look t c.node ≡ some v → entering t c ≡ none
  unfolding entering
  enter-taken v e f = rw (e, f, entering)

  enter-free : (is_pin c.node && ltb 0 c.count) ≡ true → look t c.node ≡ none → entering t c ≡ some (put_in t c.node c.count)
  unfolding entering
  enter-free e f = rw (e, f, entering)

enter_over : (o : Option (List ℕ)) (bs : List Count) (c : Count) (cs : List Count)
    → entries_right (nodes_of bs) (c ∷ cs) ≡ entries_right (nodes_of (bs ++ (c ∷ []))) cs → EnterEnd o (bs ++ (c ∷ [])) cs → EnterEnd o bs (c ∷ cs)
enter_over (some t) bs c cs e (r, h) =
    let k : (bs ++ (c ∷ [])) ++ cs ≡ bs ++ (c ∷ cs) = append_assoc bs (c ∷ []) cs in
    (e ∙ r, rw k at h)
enter_over none bs c cs e r = e ∙ r

right_nil : (ns : List ℕ) → entries_right ns [] ≡ true
unfolding entries_right
right_nil ns = refl

pub enter_end : (bs cs : List Count) (t : List ℕ) → MapHolds t (nodes_of bs) (count_in bs) (length bs) → length bs + length cs ≤ capacity t
    → EnterEnd (through entering t cs) bs cs
enter_end bs [] t h l = rw (through_end entering t) (right_nil (nodes_of bs), rw append-nil h)
enter_end bs (c ∷ cs) t h l = go (is_pin c.node && ltb 0 c.count) refl (look_cases t (nodes_of bs) (count_in bs) (length bs) c.node h)
    (λ u k m. enter_end (bs ++ (c ∷ [])) cs u k m)
  where
    B : List Count
    B = bs ++ (c ∷ [])

    T : List ℕ
    T = put_in t c.node c.count

    same : nodes_of B ≡ nodes_of bs ++ (c.node ∷ [])
    same = nodes_snoc bs c

    size : length B ≡ length bs + 1
    size = length-append bs (c ∷ [])

    go : (b : Bool) → (is_pin c.node && ltb 0 c.count) ≡ b
        → ((among (nodes_of bs) c.node ≡ true) × (look t c.node ≡ some (count_in bs c.node))) ⊎ ((among (nodes_of bs) c.node ≡ false) × (look t c.node ≡ none))
        → ((u : List ℕ) → MapHolds u (nodes_of B) (count_in B) (length B) → length B + length cs ≤ capacity u → EnterEnd (through entering u cs) B cs)
        → EnterEnd (through entering t (c ∷ cs)) bs (c ∷ cs)
    go false e w r = rw (through_none entering t c cs (enter-test t c e)) (entry-test (nodes_of bs) c cs e)
    go true e (inl (a, k)) r = rw (through_none entering t c cs (enter-taken t c (count_in bs c.node) e k)) (entry-twice (nodes_of bs) c cs a)
    go true e (inr (a, k)) r =
        let p : capacity T ≡ capacity t = put_capacity t c.node c.count in
        let z : length B ≡ length bs + 1 = size in
        let held : MapHolds T (nodes_of bs ++ (c.node ∷ [])) (count_in B) (length bs + 1) =
        held_add t (nodes_of bs) (count_in bs) (length bs) h c.node c.count (omega arith) (count_in B)
        (count_skip bs (c ∷ []) c.node a ∙ count_head c [])
        (λ q s. count_other bs c q s) a in
        let next : EnterEnd (through entering T cs) B cs = r T (held_ext T (nodes_of bs ++ (c.node ∷ [])) (count_in B) (length bs + 1) held (nodes_of B) (count_in B) (length B) (sym same) (λ q. refl) (omega arith)) (omega arith) in
        let on : entries_right (nodes_of bs) (c ∷ cs) ≡ entries_right (nodes_of B) cs = entry-on (nodes_of bs) c cs e a ∙ ap (λ (ns : List ℕ). entries_right ns cs) (sym same) in
        rw (through_on entering t c cs T (enter-free t c e k)) (enter_over (through entering T cs) bs c cs on next)

-- ---- raising

abbrev pub RaiseEnd : Option Raised → List ℕ → List ℕ → (ℕ → ℕ) → List ℕ → ℕ → Type 0
RaiseEnd (some r) names news value xs n =
    MapHolds r.map (names ++ fresh names xs) (λ y. value y + times_among xs y) (n + length xs) × (r.new ≡ news ++ fresh names xs) × ((y : ℕ) → value y + times_among xs y < 2 ^ 32)
RaiseEnd none names news value xs n = (y : ℕ) × (among xs y ≡ true) × (2 ^ 32 ≤ value y + times_among xs y)

module _ (t news : List ℕ) (x : ℕ) where
  raise-free : look t x ≡ none → raising (raised t news) x ≡ some (raised (put_in t x 1) (news ++ (x ∷ [])))
  unfolding raising
  raise-free e = rw (e, raising)

  raise-on : (v : ℕ) → look t x ≡ some v → v < 4294967295 → raising (raised t news) x ≡ some (raised (put_in t x (v + 1)) news)
  unfolding raising
  raise-on v e h = rw (e, lt-ltb v 4294967295 h, raising)

  raise-full : (v : ℕ) → look t x ≡ some v → 4294967295 ≤ v → raising (raised t news) x ≡ none
  unfolding raising
  raise-full v e h = rw (e, le-ltb v 4294967295 h, raising)

no_more : (l ns : List ℕ) → l ++ fresh ns [] ≡ l
unfolding fresh
no_more l ns = append-nil l

-- one more of x: its number, and the others'
plus : (ℕ → ℕ) → ℕ → ℕ → ℕ
plus value x y = value y + times_among (x ∷ []) y

module _ (value : ℕ → ℕ) (x : ℕ) where
  plus-own : plus value x x ≡ value x + 1
  unfolding plus
  plus-own = omega (arith, times_among_here [] x x refl, times_among_nil x)

  plus-other : (q : ℕ) → (q ≡ x → ⊥) → plus value x q ≡ value q
  unfolding plus
  plus-other q s = omega (arith, times_there [] x q (λ (e : x ≡ q). s (sym e)), times_among_nil q)

  plus_times : (xs : List ℕ) (y : ℕ) → plus value x y + times_among xs y ≡ value y + times_among (x ∷ xs) y
  unfolding plus
  plus_times xs y = omega (arith, times_two x xs y)

raise_over : (o : Option Raised) (names news names₁ news₁ : List ℕ) (value : ℕ → ℕ) (x : ℕ) (xs : List ℕ) (n k : ℕ)
    → names₁ ++ fresh names₁ xs ≡ names ++ fresh names (x ∷ xs) → news₁ ++ fresh names₁ xs ≡ news ++ fresh names (x ∷ xs) → k ≤ n + 1
    → RaiseEnd o names₁ news₁ (plus value x) xs k → RaiseEnd o names news value (x ∷ xs) n
raise_over (some r) names news names₁ news₁ value x xs n k e f l (h, w, b) = (
  held_ext r.map (names₁ ++ fresh names₁ xs) (λ y. plus value x y + times_among xs y) (k + length xs) h
      (names ++ fresh names (x ∷ xs)) (λ y. value y + times_among (x ∷ xs) y) (n + length (x ∷ xs)) e (λ y. plus_times value x xs y) (omega arith),
  w ∙ f,
  λ y. omega (arith, b y, plus_times value x xs y),
)
raise_over none names news names₁ news₁ value x xs n k e f l (y, a, b) = (y, among_tail x xs y a, omega (arith, plus_times value x xs y))

pub raise_end : (xs t names news : List ℕ) (value : ℕ → ℕ) (n : ℕ) → MapHolds t names value n → n + length xs ≤ capacity t
    → ((y : ℕ) → among names y ≡ false → value y ≡ 0) → ((y : ℕ) → value y < 2 ^ 32) → RaiseEnd (through raising (raised t news) xs) names news value xs n
raise_end [] t names news value n h l z b =
    rw (through_end raising (raised t news)) (
      held_ext t names value n h (names ++ fresh names []) (λ y. value y + times_among [] y) (n + 0) (sym (no_more names names)) (λ y. omega (arith, times_among_nil y)) (omega arith),
      sym (no_more news names),
      λ y. omega (arith, b y, times_among_nil y),
    )
raise_end (x ∷ xs) t names news value n h l z b =
    go (look_cases t names value n x h) (λ u ns ws k f m o p. raise_end xs u ns ws (plus value x) k f m o p)
  where
    W : ℕ → ℕ
    W = plus value x

    Next : Type 0
    Next = (u ns ws : List ℕ) (k : ℕ) → MapHolds u ns W k → k + length xs ≤ capacity u → ((y : ℕ) → among ns y ≡ false → W y ≡ 0) → ((y : ℕ) → W y < 2 ^ 32)
        → RaiseEnd (through raising (raised u ws) xs) ns ws W xs k

    bound : value x < 4294967295 → (y : ℕ) → W y < 2 ^ 32
    bound w y = ⊎_elim (λ (o : (x ≡ y) × (times_among (x ∷ []) y ≡ 1)). omega (arith, plus-own value x, ap W o.0)) (λ o. omega (arith, b y, plus-other value x y (λ (e : y ≡ x). o.0 (sym e)))) (one_or_none x y)

    go : ((among names x ≡ true) × (look t x ≡ some (value x))) ⊎ ((among names x ≡ false) × (look t x ≡ none)) → Next
        → RaiseEnd (through raising (raised t news) (x ∷ xs)) names news value (x ∷ xs) n
    go (inr (a, k)) r =
        let T = put_in t x 1 in
        let N = names ++ (x ∷ []) in
        let w : value x ≡ 0 = z x a in
        let p : capacity T ≡ capacity t = put_capacity t x 1 in
        let held : MapHolds T N W (n + 1) = held_add t names value n h x 1 (omega arith) W (omega (arith, plus-own value x)) (plus-other value x) a in
        let zero-else : (y : ℕ) → among N y ≡ false → W y ≡ 0 = λ y e.
        let (u, v) = or_parts (among names y) (among (x ∷ []) y) (sym (among_append names (x ∷ []) y) ∙ e) in
        plus-other value x y (λ (d : y ≡ x). not_both (among (x ∷ []) y) (ap (λ (i : ℕ). among (x ∷ []) i) d ∙ among_head x []) v) ∙ z y u in
        let next = r T N (news ++ (x ∷ [])) (n + 1) held (omega arith) zero-else (bound (omega arith)) in
        let f = fresh_new names x xs a in
        rw (through_on raising (raised t news) x xs (raised T (news ++ (x ∷ []))) (raise-free t news x k))
        (raise_over (through raising (raised T (news ++ (x ∷ []))) xs) names news N (news ++ (x ∷ [])) value x xs n (n + 1)
        (append_assoc names (x ∷ []) (fresh N xs) ∙ ap (λ (i : List ℕ). names ++ i) (sym f))
        (append_assoc news (x ∷ []) (fresh N xs) ∙ ap (λ (i : List ℕ). news ++ i) (sym f))
        (omega arith) next)
    go (inl (a, k)) r = inner (ltb (value x) 4294967295) refl
      where
        inner : (c : Bool) → ltb (value x) 4294967295 ≡ c → RaiseEnd (through raising (raised t news) (x ∷ xs)) names news value (x ∷ xs) n
        inner false e =
            let w : 4294967295 ≤ value x = ltb-false _ _ e in
            rw (through_none raising (raised t news) x xs (raise-full t news x (value x) k w))
            (x, among_head x xs, omega (arith, times_own x xs))
        inner true e =
            let w : value x < 4294967295 = ltb-true _ _ e in
            let T = put_in t x (value x + 1) in
            let p : capacity T ≡ capacity t = put_capacity t x (value x + 1) in
            let held : MapHolds T names W n = held_set t names value n h x (value x + 1) (omega arith) W (plus-own value x) (plus-other value x) a in
            let zero-else : (y : ℕ) → among names y ≡ false → W y ≡ 0 = λ y e.
            plus-other value x y (λ (d : y ≡ x). not_both (among names y) (ap (λ (i : ℕ). among names i) d ∙ a) e) ∙ z y e in
            let next = r T names news n held (omega arith) zero-else (bound w) in
            let f = fresh_old names x xs a in
            rw (through_on raising (raised t news) x xs (raised T news) (raise-on t news x (value x) k w))
            (raise_over (through raising (raised T news) xs) names news names news value x xs n n
            (ap (λ (i : List ℕ). names ++ i) (sym f)) (ap (λ (i : List ℕ). news ++ i) (sym f)) (omega arith) next)

-- ---- lowering

abbrev pub LowerEnd : Option (List ℕ) → List ℕ → (ℕ → ℕ) → List ℕ → ℕ → Type 0
LowerEnd (some t) names value xs n = MapHolds t names (λ y. value y - times_among xs y) n × ((y : ℕ) → times_among xs y ≤ value y)
LowerEnd none names value xs n = (y : ℕ) × (among xs y ≡ true) × (value y < times_among xs y)

minus : (ℕ → ℕ) → ℕ → ℕ → ℕ
minus value x y = value y - times_among (x ∷ []) y

module _ (value : ℕ → ℕ) (x : ℕ) where
  minus-own : minus value x x ≡ value x - 1
  unfolding minus
  minus-own = let e : times_among (x ∷ []) x ≡ 1 = times_among_here [] x x refl ∙ omega (arith, times_among_nil x) in ap (λ (n : ℕ). value x - n) e

  minus-other : (q : ℕ) → (q ≡ x → ⊥) → minus value x q ≡ value q
  unfolding minus
  minus-other q s = let e : times_among (x ∷ []) q ≡ 0 = times_there [] x q (λ (d : x ≡ q). s (sym d)) ∙ times_among_nil q in ap (λ (n : ℕ). value q - n) e ∙ omega arith

  minus-times : (xs : List ℕ) (y : ℕ) → minus value x y - times_among xs y ≡ value y - times_among (x ∷ xs) y
  unfolding minus
  minus-times xs y = let e = times_two x xs y in omega arith

  -- where x is there, what falls short without it falls short with it
  minus-le : 0 < value x → (xs : List ℕ) (y : ℕ) → times_among xs y ≤ minus value x y → times_among (x ∷ xs) y ≤ value y
  unfolding minus
  minus-le p xs y h =
      let e = times_two x xs y in
      ⊎_elim (λ (o : (x ≡ y) × (times_among (x ∷ []) y ≡ 1)). let q : 0 < value y = rw o.0 at p in omega (arith, o.1)) (λ o. omega (arith, o.1)) (one_or_none x y)

  minus-lt : (xs : List ℕ) (y : ℕ) → minus value x y < times_among xs y → value y < times_among (x ∷ xs) y
  unfolding minus
  minus-lt xs y h = let e = times_two x xs y in omega arith

lower_over : (o : Option (List ℕ)) (names : List ℕ) (value : ℕ → ℕ) (x : ℕ) (xs : List ℕ) (n : ℕ) → 0 < value x
    → LowerEnd o names (minus value x) xs n → LowerEnd o names value (x ∷ xs) n
lower_over (some t) names value x xs n p (h, b) =
    (held_ext t names (λ y. minus value x y - times_among xs y) n h names (λ y. value y - times_among (x ∷ xs) y) n refl (minus-times value x xs) (omega arith), λ y. minus-le value x p xs y (b y))
lower_over none names value x xs n p (y, a, b) = (y, among_tail x xs y a, minus-lt value x xs y b)

pub lower_end : (xs t names : List ℕ) (value : ℕ → ℕ) (n : ℕ) → MapHolds t names value n → n < capacity t
    → ((y : ℕ) → among names y ≡ false → value y ≡ 0) → LowerEnd (through lowering t xs) names value xs n
lower_end [] t names value n h l z =
    rw (through_end lowering t)
    (held_ext t names value n h names (λ y. value y - times_among [] y) n refl (λ y. omega (arith, times_among_nil y)) (omega arith), λ y. omega (arith, times_among_nil y))
lower_end (x ∷ xs) t names value n h l z = go (look_cases t names value n x h) (λ u f m o. lower_end xs u names (minus value x) n f m o)
  where
    W : ℕ → ℕ
    W = minus value x

    go : ((among names x ≡ true) × (look t x ≡ some (value x))) ⊎ ((among names x ≡ false) × (look t x ≡ none))
        → ((u : List ℕ) → MapHolds u names W n → n < capacity u → ((y : ℕ) → among names y ≡ false → W y ≡ 0) → LowerEnd (through lowering u xs) names W xs n)
        → LowerEnd (through lowering t (x ∷ xs)) names value (x ∷ xs) n
    go (inr (a, k)) r = rw (through_none lowering t x xs (lower_missing t x k)) (x, among_head x xs, omega (arith, z x a, times_own x xs))
    go (inl (a, k)) r = inner (ltb 0 (value x)) refl
      where
        inner : (c : Bool) → ltb 0 (value x) ≡ c → LowerEnd (through lowering t (x ∷ xs)) names value (x ∷ xs) n
        inner false e =
            let w : value x ≤ 0 = ltb-false _ _ e in
            rw (through_none lowering t x xs (lower_zero t x (value x) k w)) (x, among_head x xs, omega (arith, times_own x xs))
        inner true e =
            let w : 0 < value x = ltb-true _ _ e in
            let T = put_in t x (value x - 1) in
            let p : capacity T ≡ capacity t = put_capacity t x (value x - 1) in
            let held : MapHolds T names W n = held_set t names value n h x (value x - 1) l W (minus-own value x) (minus-other value x) a in
            let zero-else : (y : ℕ) → among names y ≡ false → W y ≡ 0 = λ y f.
            minus-other value x y (λ (d : y ≡ x). not_both (among names y) (ap (λ (i : ℕ). among names i) d ∙ a) f) ∙ z y f in
            rw (through_on lowering t x xs T (lower_there t x (value x) k w)) (lower_over (through lowering T xs) names value x xs n w (r T held (omega arith) zero-else))
