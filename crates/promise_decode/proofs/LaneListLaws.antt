-- Words of appended lists by their place, and of the lists that a script is made of: four words a lane, a section of entries and lanes.
-- Assumes nothing.
use mathlib.Core.Path.{◌≡◌, sym, ap, ◌∙◌}
use mathlib.Core.List.{List, [], ◌∷◌, ◌++◌}
use mathlib.Core.Logic.{⊎_elim}
use Prim.Native.Nat.{ℕ, zero, suc, ◌+◌, ◌*◌, ◌%◌, ◌^◌, ◌<◌}
use native.Mathlib.Nat.{not-suc-le-zero, eq-or-lt_of_le, le_of_suc-le-suc}
use native.Mathlib.Omega.{arith}
use lib.ListN.{length, get_or, get_or-append}
use lib.Seq.{get_or-append-add}
use Rattle.words.specs.Section.{word_of_entry, half_of, half_at, section_of}
use Rattle.words.proofs.SectionLaws.{section_length, place_lt, half_section}
use Rattle.script.specs.Script.{lane_list}
use Rattle.script.proofs.SectionsLaws.{lanes_length}

-- ---- two lists, one behind the other

pub in_front_lem : (a b : List ℕ) (m j : ℕ) → length a ≡ m → j < m → get_or (a ++ b) j 0 ≡ get_or a j 0
in_front_lem a b m j e h = get_or-append a b 0 j (omega arith)

pub behind : (a b : List ℕ) (m j : ℕ) → length a ≡ m → get_or (a ++ b) (m + j) 0 ≡ get_or b j 0
behind a b m j e = ap (λ (k : ℕ). get_or (a ++ b) (k + j) 0) (sym e) ∙ get_or-append-add a b j 0

-- ---- four words a lane

module _ (a b c : ℕ → ℕ) where
  -- word h of lane w
  lane_at : (m w h : ℕ) → w < m → h < 4 → get_or (lane_list a b c m) (4 * w + h) 0 ≡ get_or (a w ∷ b w ∷ c w ∷ 0 ∷ []) h 0
  unfolding lane_list
  lane_at zero w h l k = absurd (not-suc-le-zero l)
  lane_at (suc m) w h l k = ⊎_elim
      (λ e. rw e (behind (lane_list a b c m) (a m ∷ b m ∷ c m ∷ 0 ∷ []) (4 * m) h (lanes_length a b c m)))
      (λ s. in_front_lem (lane_list a b c m) (a m ∷ b m ∷ c m ∷ 0 ∷ []) (4 * m) (4 * w + h) (lanes_length a b c m) (omega arith) ∙ lane_at m w h s k)
      (eq-or-lt_of_le (le_of_suc-le-suc l))

  -- ---- a section: entries f, then the lanes

  module _ (n : ℕ) (f : ℕ → ℕ) where
    pub section_entry : ((j : ℕ) → j < 32 * n → f j < 2 ^ 16) → (i : ℕ) → i < 32 * n
        → half_of (get_or (section_of n f ++ lane_list a b c n) (word_of_entry n i) 0) (i % 2) ≡ f i
    unfolding half_at
    section_entry small i h =
        ap (λ (x : ℕ). half_of x (i % 2)) (in_front_lem (section_of n f) (lane_list a b c n) (16 * n) (word_of_entry n i) (section_length n f) (place_lt n i h))
        ∙ half_section n f small i h

    section-lane : (w h : ℕ) → w < n → h < 4
        → get_or (section_of n f ++ lane_list a b c n) (16 * n + (4 * w + h)) 0 ≡ get_or (a w ∷ b w ∷ c w ∷ 0 ∷ []) h 0
    section-lane w h l k = behind (section_of n f) (lane_list a b c n) (16 * n) (4 * w + h) (section_length n f) ∙ lane_at n w h l k

    pub section_first : (w : ℕ) → w < n → get_or (section_of n f ++ lane_list a b c n) (16 * n + (4 * w + 0)) 0 ≡ a w
    section_first w l = section-lane w 0 l (omega arith)

    pub section_second : (w : ℕ) → w < n → get_or (section_of n f ++ lane_list a b c n) (16 * n + (4 * w + 1)) 0 ≡ b w
    section_second w l = section-lane w 1 l (omega arith)

    pub section_third : (w : ℕ) → w < n → get_or (section_of n f ++ lane_list a b c n) (16 * n + (4 * w + 2)) 0 ≡ c w
    section_third w l = section-lane w 2 l (omega arith)
