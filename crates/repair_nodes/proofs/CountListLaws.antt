-- Laws of count lists: each node's count after a placing, one node more, and "placing and then clearing gives back the same .. counts": old entries lose what they
-- gained, and new ones are at 0 and go.
-- Assumes nothing.
use mathlib.Core.Path.{◌≡◌, refl, sym, ap, ap₂, ◌∙◌}
use mathlib.Core.Bool.{Bool, true, false, not, ◌&&◌, ◌||◌, or-true, or_assoc}
use mathlib.Core.List.{List, [], ◌∷◌, ◌++◌, map, map-append, append_assoc, append-nil}
use Prim.Native.Nat.{ℕ, suc, ◌+◌, ◌-◌, ◌^◌, ◌≤◌, ◌<◌}
use native.Mathlib.Omega.{arith}
use borrow.Author.Tests.{ltb-true, leb-true, le-ltb, eq-eqb, ne_eqb, eqb-true, not-true}
use lib.Dec.{eqb, ltb}
use lib.ListN.{length}
use Rattle.words.specs.Pins.{is_pin}
use Rattle.words.proofs.TestLaws.{not_both, and_true}
use Rattle.repair_nodes.proofs.JudgeLaws.{or_parts}
use Rattle.repair_nodes.specs.CountList.{Count, counted, nodes_of, among, times_among, entries_right, count_in, fresh, counts_more, nonzero, counts_less, any_short, short}

-- ---- among, times

pub among_append : (xs ys : List ℕ) (y : ℕ) → among (xs ++ ys) y ≡ (among xs y || among ys y)
unfolding among
among_append [] ys y = refl
among_append (x ∷ xs) ys y = ap (λ (b : Bool). eqb x y || b) (among_append xs ys y) ∙ sym (or_assoc (eqb x y) (among xs y) (among ys y))

pub among_front : (xs ys : List ℕ) (y : ℕ) → among xs y ≡ true → among (xs ++ ys) y ≡ true
among_front xs ys y h = among_append xs ys y ∙ ap (λ (b : Bool). b || among ys y) h

pub among_back : (xs ys : List ℕ) (y : ℕ) → among ys y ≡ true → among (xs ++ ys) y ≡ true
among_back xs ys y h = among_append xs ys y ∙ (ap (λ (b : Bool). among xs y || b) h ∙ or-true (among xs y))

pub among_head : (y : ℕ) (ys : List ℕ) → among (y ∷ ys) y ≡ true
unfolding among
among_head y ys = ap (λ (b : Bool). b || among ys y) (eq-eqb y y refl)

pub among_tail : (x : ℕ) (ys : List ℕ) (y : ℕ) → among ys y ≡ true → among (x ∷ ys) y ≡ true
unfolding among
among_tail x ys y h = ap (λ (b : Bool). eqb x y || b) h ∙ or-true (eqb x y)

pub times_among_here : (xs : List ℕ) (x y : ℕ) → x ≡ y → times_among (x ∷ xs) y ≡ 1 + times_among xs y
unfolding times_among
times_among_here xs x y e = rw (eq-eqb x y e, times_among)

pub times_there : (xs : List ℕ) (x y : ℕ) → (x ≡ y → ⊥) → times_among (x ∷ xs) y ≡ times_among xs y
unfolding times_among
times_there xs x y n = rw (ne_eqb x y n, times_among)

pub times_among_append : (xs ys : List ℕ) (y : ℕ) → times_among (xs ++ ys) y ≡ times_among xs y + times_among ys y
unfolding times_among
times_among_append [] ys y = omega arith
times_among_append (x ∷ xs) ys y = go (eqb x y) (times_among_append xs ys y)
  where
    go : (b : Bool) → times_among (xs ++ ys) y ≡ times_among xs y + times_among ys y
        → (elim b [ true ↦ 1 + times_among (xs ++ ys) y | false ↦ times_among (xs ++ ys) y ]) ≡ (elim b [ true ↦ 1 + times_among xs y | false ↦ times_among xs y ]) + times_among ys y
    go true h = omega arith
    go false h = h

pub times_among_nil : (y : ℕ) → times_among [] y ≡ 0
unfolding times_among
times_among_nil y = refl

-- ---- a list made of nodes and a number for each

pub nodes_map : (f : ℕ → ℕ) (l : List ℕ) → nodes_of (map (λ (y : ℕ). counted y (f y)) l) ≡ l
unfolding nodes_of
nodes_map f [] = refl
nodes_map f (x ∷ l) = ap (λ (r : List ℕ). x ∷ r) (nodes_map f l)

pub count_map : (f : ℕ → ℕ) (l : List ℕ) (y : ℕ) → among l y ≡ true → count_in (map (λ (z : ℕ). counted z (f z)) l) y ≡ f y
unfolding among count_in
count_map f [] y h = absurd (not_both false h refl)
count_map f (x ∷ l) y h = go (eqb x y) refl h (λ k. count_map f l y k)
  where
    go : (b : Bool) → eqb x y ≡ b → (b || among l y) ≡ true → (among l y ≡ true → count_in (map (λ (z : ℕ). counted z (f z)) l) y ≡ f y)
        → (elim b [ true ↦ f x | false ↦ count_in (map (λ (z : ℕ). counted z (f z)) l) y ]) ≡ f y
    go true e k r = ap f (eqb-true x y e)
    go false e k r = r k

pub map-among : (f g : ℕ → ℕ) (l : List ℕ) → ((y : ℕ) → among l y ≡ true → f y ≡ g y)
    → map (λ (y : ℕ). counted y (f y)) l ≡ map (λ (y : ℕ). counted y (g y)) l
map-among f g [] h = refl
map-among f g (x ∷ l) h =
    ap₂ (λ (n : ℕ) (r : List Count). counted x n ∷ r) (h x (among_head x l)) (map-among f g l (λ y k. h y (among_tail x l y k)))

pub count_none : (cs : List Count) (y : ℕ) → among (nodes_of cs) y ≡ false → count_in cs y ≡ 0
unfolding among nodes_of count_in
count_none [] y h = refl
count_none (c ∷ cs) y h =
    let (a, b) = or_parts (eqb c.node y) (among (nodes_of cs) y) h in
    rw (a, count_in) (count_none cs y b)

-- ---- new nodes

module _ (ns : List ℕ) (x : ℕ) (xs : List ℕ) where
  pub fresh_old : among ns x ≡ true → fresh ns (x ∷ xs) ≡ fresh ns xs
  unfolding fresh
  fresh_old h = rw (h, fresh)

  pub fresh_new : among ns x ≡ false → fresh ns (x ∷ xs) ≡ x ∷ fresh (ns ++ (x ∷ [])) xs
  unfolding fresh
  fresh_new h = rw (h, fresh)

fresh_nil : (ns : List ℕ) (y : ℕ) → among (fresh ns []) y ≡ false
unfolding fresh among
fresh_nil ns y = refl

pub not_head : (x : ℕ) (l : List ℕ) (y : ℕ) → (x ≡ y → ⊥) → among l y ≡ false → among (x ∷ l) y ≡ false
unfolding among
not_head x l y n h = ap (λ (b : Bool). b || among l y) (ne_eqb x y n) ∙ h

-- none of them was there
pub fresh_not : (ns xs : List ℕ) (y : ℕ) → among ns y ≡ true → among (fresh ns xs) y ≡ false
fresh_not ns [] y h = fresh_nil ns y
fresh_not ns (x ∷ xs) y h = go (among ns x) refl (fresh_not ns xs y h) (fresh_not (ns ++ (x ∷ [])) xs y (among_front ns (x ∷ []) y h))
  where
    go : (b : Bool) → among ns x ≡ b → among (fresh ns xs) y ≡ false → among (fresh (ns ++ (x ∷ [])) xs) y ≡ false → among (fresh ns (x ∷ xs)) y ≡ false
    go true e u v = ap (λ (l : List ℕ). among l y) (fresh_old ns x xs e) ∙ u
    go false e u v =
        let n : x ≡ y → ⊥ = λ k. not_both (among ns y) h (ap (λ (z : ℕ). among ns z) (sym k) ∙ e) in
        ap (λ (l : List ℕ). among l y) (fresh_new ns x xs e) ∙ not_head x (fresh (ns ++ (x ∷ [])) xs) y n v

-- each of xs is there, or is new
pub all_named : (ns xs : List ℕ) (y : ℕ) → among xs y ≡ true → among (ns ++ fresh ns xs) y ≡ true
unfolding among
all_named ns [] y h = absurd (not_both false h refl)
all_named ns (x ∷ xs) y h = go (among ns x) refl (eqb x y) refl h (λ k. all_named ns xs y k) (λ k. all_named (ns ++ (x ∷ [])) xs y k)
  where
    F : List ℕ
    F = fresh (ns ++ (x ∷ [])) xs

    go : (b : Bool) → among ns x ≡ b → (c : Bool) → eqb x y ≡ c → (c || among xs y) ≡ true
        → (among xs y ≡ true → among (ns ++ fresh ns xs) y ≡ true) → (among xs y ≡ true → among ((ns ++ (x ∷ [])) ++ F) y ≡ true)
        → among (ns ++ fresh ns (x ∷ xs)) y ≡ true
    go true e true q k u v =
        among_front ns (fresh ns (x ∷ xs)) y (ap (λ (z : ℕ). among ns z) (sym (eqb-true x y q)) ∙ e)
    go true e false q k u v = ap (λ (l : List ℕ). among (ns ++ l) y) (fresh_old ns x xs e) ∙ u k
    go false e true q k u v =
        let z : among (x ∷ F) y ≡ true = ap (λ (w : ℕ). among (x ∷ F) w) (sym (eqb-true x y q)) ∙ among_head x F in
        ap (λ (l : List ℕ). among (ns ++ l) y) (fresh_new ns x xs e) ∙ among_back ns (x ∷ F) y z
    go false e false q k u v =
        let z : among (ns ++ (x ∷ F)) y ≡ true = rw append_assoc at (v k) in
        ap (λ (l : List ℕ). among (ns ++ l) y) (fresh_new ns x xs e) ∙ z

-- ---- a list in form

abbrev pub CountsFormed : List Count → Type 0
CountsFormed cs = entries_right [] cs ≡ true

pub record Entered (ns : List ℕ) (c : Count) (cs : List Count) : Type 0 where
  pub pin : c.node ≤ 2 ^ 30
  pub some : 0 < c.count
  pub once : among ns c.node ≡ false
  pub others : entries_right (ns ++ (c.node ∷ [])) cs ≡ true

pub entered : (ns : List ℕ) (c : Count) (cs : List Count) → entries_right ns (c ∷ cs) ≡ true → Entered ns c cs
unfolding entries_right
entered ns c cs h =
    let (abc, d) = and_true (is_pin c.node && ltb 0 c.count && not (among ns c.node)) (entries_right (ns ++ (c.node ∷ [])) cs) h in
    let (ab, e) = and_true (is_pin c.node && ltb 0 c.count) (not (among ns c.node)) abc in
    let (a, b) = and_true (is_pin c.node) (ltb 0 c.count) ab in
    record { pin = leb-true _ _ a; some = ltb-true _ _ b; once = not-true _ e; others = d }

-- a node that the first entries have not has its count behind them
pub count_skip : (bs cs : List Count) (y : ℕ) → among (nodes_of bs) y ≡ false → count_in (bs ++ cs) y ≡ count_in cs y
unfolding among nodes_of count_in
count_skip [] cs y h = refl
count_skip (b ∷ bs) cs y h =
    let (e, f) = or_parts (eqb b.node y) (among (nodes_of bs) y) h in
    rw (e, count_in) (count_skip bs cs y f)

pub count_head : (c : Count) (cs : List Count) → count_in (c ∷ cs) c.node ≡ c.count
unfolding count_in
count_head c cs = rw (eq-eqb c.node c.node refl, count_in)

pub count_other : (bs : List Count) (c : Count) (y : ℕ) → (y ≡ c.node → ⊥) → count_in (bs ++ (c ∷ [])) y ≡ count_in bs y
unfolding count_in
count_other [] c y n = rw (ne_eqb c.node y (λ (e : c.node ≡ y). n (sym e)), count_in)
count_other (b ∷ bs) c y n = go (eqb b.node y) (count_other bs c y n)
  where
    go : (d : Bool) → count_in (bs ++ (c ∷ [])) y ≡ count_in bs y
        → ◌≡◌ {A = ℕ} (elim d [ true ↦ b.count | false ↦ count_in (bs ++ (c ∷ [])) y ]) (elim d [ true ↦ b.count | false ↦ count_in bs y ])
    go true h = refl
    go false h = h

pub nodes_length : (cs : List Count) → length (nodes_of cs) ≡ length cs
unfolding nodes_of
nodes_length [] = refl
nodes_length (c ∷ cs) = ap suc (nodes_length cs)

pub nodes_append : (bs cs : List Count) → nodes_of (bs ++ cs) ≡ nodes_of bs ++ nodes_of cs
unfolding nodes_of
nodes_append [] cs = refl
nodes_append (b ∷ bs) cs = ap (λ (l : List ℕ). b.node ∷ l) (nodes_append bs cs)

pub nodes_snoc : (bs : List Count) (c : Count) → nodes_of (bs ++ (c ∷ [])) ≡ nodes_of bs ++ (c.node ∷ [])
unfolding nodes_of
nodes_snoc bs c = nodes_append bs (c ∷ [])

-- so the list is made of its nodes and their counts: bs are the entries before
nothing_before : (cs : List Count) → CountsFormed cs → entries_right (nodes_of []) cs ≡ true
unfolding nodes_of
nothing_before cs h = h

formed_from : (bs cs : List Count) → entries_right (nodes_of bs) cs ≡ true → map (λ (y : ℕ). counted y (count_in (bs ++ cs) y)) (nodes_of cs) ≡ cs
unfolding nodes_of
formed_from bs [] h = refl
formed_from bs (c ∷ cs) h =
    let e = entered (nodes_of bs) c cs h in
    let n : count_in (bs ++ (c ∷ cs)) c.node ≡ c.count = count_skip bs (c ∷ cs) c.node e.once ∙ count_head c cs in
    let m : nodes_of (bs ++ (c ∷ [])) ≡ nodes_of bs ++ (c.node ∷ []) = nodes_snoc bs c in
    let r = formed_from (bs ++ (c ∷ [])) cs (rw m e.others) in
    let q : map (λ (y : ℕ). counted y (count_in (bs ++ (c ∷ cs)) y)) (nodes_of cs) ≡ cs = rw append_assoc at r in
    ap₂ (λ (k : ℕ) (l : List Count). counted c.node k ∷ l) n q

pub formed_map : (cs : List Count) → CountsFormed cs → map (λ (y : ℕ). counted y (count_in cs y)) (nodes_of cs) ≡ cs
formed_map cs h = formed_from [] cs (nothing_before cs h)

-- ---- entries at 0 go

pub nonzero_append : (cs bs : List Count) → nonzero (cs ++ bs) ≡ nonzero cs ++ nonzero bs
unfolding nonzero
nonzero_append [] bs = refl
nonzero_append (c ∷ cs) bs = go (eqb c.count 0) (nonzero_append cs bs)
  where
    go : (b : Bool) → nonzero (cs ++ bs) ≡ nonzero cs ++ nonzero bs
        → (elim b [ true ↦ nonzero (cs ++ bs) | false ↦ c ∷ nonzero (cs ++ bs) ]) ≡ (elim b [ true ↦ nonzero cs | false ↦ c ∷ nonzero cs ]) ++ nonzero bs
    go true h = h
    go false h = ap (λ (l : List Count). c ∷ l) h

pub nonzero_none : (f : ℕ → ℕ) (l : List ℕ) → ((y : ℕ) → among l y ≡ true → f y ≡ 0) → nonzero (map (λ (y : ℕ). counted y (f y)) l) ≡ []
unfolding nonzero
nonzero_none f [] h = refl
nonzero_none f (x ∷ l) h =
    rw (eq-eqb (f x) 0 (h x (among_head x l)), nonzero) (nonzero_none f l (λ y k. h y (among_tail x l y k)))

pub nonzero_all : (ns : List ℕ) (cs : List Count) → entries_right ns cs ≡ true → nonzero cs ≡ cs
unfolding nonzero
nonzero_all ns [] h = refl
nonzero_all ns (c ∷ cs) h =
    let e = entered ns c cs h in
    let p : 0 < c.count = e.some in
    rw (ne_eqb c.count 0 (λ (z : c.count ≡ 0). omega arith), nonzero) (ap (λ (l : List Count). c ∷ l) (nonzero_all (ns ++ (c.node ∷ [])) cs e.others))

-- ---- placed, then cleared

module _ (cs : List Count) (xs : List ℕ) where
  pub more_nodes : nodes_of (counts_more cs xs) ≡ nodes_of cs ++ fresh (nodes_of cs) xs
  unfolding counts_more
  more_nodes = nodes_map (λ (y : ℕ). count_in cs y + times_among xs y) (nodes_of cs ++ fresh (nodes_of cs) xs)

  pub more_count : (y : ℕ) → among (nodes_of cs ++ fresh (nodes_of cs) xs) y ≡ true → count_in (counts_more cs xs) y ≡ count_in cs y + times_among xs y
  unfolding counts_more
  more_count y h = count_map (λ (z : ℕ). count_in cs z + times_among xs z) (nodes_of cs ++ fresh (nodes_of cs) xs) y h

  -- "gives back the same .. counts", entry by entry
  pub counts_back : CountsFormed cs → counts_less (counts_more cs xs) xs ≡ cs
  unfolding counts_less
  counts_back h =
      let N = nodes_of cs in
      let F = fresh N xs in
      let M = counts_more cs xs in
      let own : ℕ → Count = λ y. counted y (count_in cs y) in
      let a : map (λ (y : ℕ). counted y (count_in M y - times_among xs y)) (nodes_of M) ≡ map (λ (y : ℕ). counted y (count_in M y - times_among xs y)) (N ++ F) =
      ap (λ (l : List ℕ). map (λ (y : ℕ). counted y (count_in M y - times_among xs y)) l) more_nodes in
      let b : map (λ (y : ℕ). counted y (count_in M y - times_among xs y)) (N ++ F) ≡ map own (N ++ F) =
      map-among (λ (y : ℕ). count_in M y - times_among xs y) (count_in cs) (N ++ F) (λ y k. let e = more_count y k in omega arith) in
      let c : nonzero (map own (N ++ F)) ≡ nonzero (map own N) ++ nonzero (map own F) =
      ap nonzero (map-append own N F) ∙ nonzero_append (map own N) (map own F) in
      let d : nonzero (map own N) ≡ cs = ap nonzero (formed_map cs h) ∙ nonzero_all [] cs h in
      let e : nonzero (map own F) ≡ [] = nonzero_none (count_in cs) F (λ y k. count_none cs y (not_listed y k)) in
      ap nonzero (a ∙ b) ∙ (c ∙ (ap₂ (λ (u : List Count) (v : List Count). u ++ v) d e ∙ append-nil cs))
    where
      not_listed : (y : ℕ) → among (fresh (nodes_of cs) xs) y ≡ true → among (nodes_of cs) y ≡ false
      not_listed y k = go (among (nodes_of cs) y) refl
        where
          go : (b : Bool) → among (nodes_of cs) y ≡ b → b ≡ false
          go true e = absurd (not_both (among (fresh (nodes_of cs) xs) y) k (fresh_not (nodes_of cs) xs y e))
          go false e = refl

-- no node is short where each is listed at its times or more
pub short_none : (cs : List Count) (xs ys : List ℕ) → ((y : ℕ) → among ys y ≡ true → times_among xs y ≤ count_in cs y) → any_short cs xs ys ≡ false
unfolding any_short
short_none cs xs [] h = refl
short_none cs xs (y ∷ ys) h =
    rw (le-ltb (count_in cs y) (times_among xs y) (h y (among_head y ys)), any_short) (short_none cs xs ys (λ z k. h z (among_tail y ys z k)))

-- clearing what was placed is not refused by 34
pub back_not_short : (cs : List Count) (xs : List ℕ) → short (counts_more cs xs) xs ≡ false
back_not_short cs xs = short_none (counts_more cs xs) xs xs (λ y k. let e = more_count cs xs y (all_named (nodes_of cs) xs y k) in omega arith)
