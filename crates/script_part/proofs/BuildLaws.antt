-- What the parts of the room and of the result are between the steps of a part's script.
-- Assumes nothing.
use mathlib.Core.Path.{◌≡◌, sym, ap, ap₂, subst, ◌∙◌}
use mathlib.Core.List.{List, ◌++◌, append_assoc}
use Prim.Native.Nat.{ℕ, ◌+◌, ◌*◌, ◌-◌, ◌≤◌}
use native.Mathlib.Omega.{arith}
use borrow.Rule.Slice.PartMut.{put_mid}
use lib.ListN.{length, take, drop, replicate, length-append, length-drop}
use lib.Seq.{length-take-le, take_at, drop_at, drop-drop, drop-append-add}
use Rattle.words.specs.Edition.{part_words}
use Rattle.reads.specs.ReadSection.{read_section}
use Rattle.plan_record.specs.declared.bodies.Body.{Body}
use Rattle.plan_record.specs.Record.{plan_lanes}
use Rattle.plan_record.proofs.RecordLaws.{lanes_range}
use Rattle.plan_reads.specs.PartReads.{part_lanes}
use Rattle.script.specs.declared.head.Numbers.{Numbers}
use Rattle.script.specs.Script.{stage_section}
use Rattle.script.specs.Writers.{NumbersOf, ScriptRoom}
use Rattle.script.proofs.PartLengthLaws.{reads_length, stage_length}
use Rattle.script.proofs.PutMidLaws.{put_mid_length}
use Rattle.script_front.specs.Build.{Buildable}
use Rattle.script_front.proofs.FrontLaws.{some_stages}

-- ---- two lists of r and f words, written behind the first n words

module _ (n r f to : ℕ) (end : to ≡ n + r + f) (out reads first w : List ℕ) (fits : to ≤ length out) (reads-size : length reads ≡ r) (first-size : length first ≡ f)
    (written : w ≡ reads ++ first) where
  abbrev put : List ℕ
  put = put_mid n (to - n) out w

  abbrev after : List ℕ
  after = drop (to - n) (drop n out)

  put_long : length put ≡ length out
  put_long = put_mid_length n to out w (omega arith) fits (omega (arith, ap length written ∙ length-append reads first))

  behind_head : drop n put ≡ reads ++ (first ++ after)
  behind_head = drop_at (take n out) (w ++ after) n (length-take-le n out (omega arith)) ∙ (ap (λ (l : List ℕ). l ++ after) written ∙ append_assoc reads first after)

  reads-there : take r (drop n put) ≡ reads
  reads-there = ap (take r) behind_head ∙ take_at reads (first ++ after) r reads-size

  first-there : take f (drop (n + r) put) ≡ first
  first-there =
      ap (take f) (sym (drop-drop r n put) ∙ (ap (drop r) behind_head ∙ drop_at reads (first ++ after) r reads-size))
      ∙ take_at first after f first-size

-- ---- the first sections are there: the script's room

module _ (d : List ℕ) (p : ℕ) (b : Body) (k : Buildable d p b) (x : Numbers) (are : NumbersOf d p x) (out : List ℕ)
    (long : length out ≡ part_words (plan_lanes d) x.rounds x.stages) where
  abbrev reads : List ℕ
  reads = read_section (part_lanes (plan_lanes d) d p)

  abbrev first : List ℕ
  first = stage_section (plan_lanes d) d p 0

  -- where the first sections end
  abbrev pub to : ℕ → ℕ
  to n = n + 2 * (n * x.rounds) + 20 * n

  out-long : length out ≡ part_words (plan_lanes d) x.rounds b.stages
  out-long = long ∙ ap (part_words (plan_lanes d) x.rounds) (are.stages ∙ sym k.body.stages)

  to_inside : to (plan_lanes d) ≤ length out
  to_inside = omega (arith, out-long)

  pub front_inside : to b.lanes ≤ length out
  front_inside = rw k.body.lanes to_inside

  reads-size : length reads ≡ 2 * (plan_lanes d * x.rounds)
  reads-size = reads_length (plan_lanes d) d p (omega (arith, lanes_range d)) ∙ (ap (λ (r : ℕ). 2 * plan_lanes d * r) (sym are.rounds) ∙ omega arith)

  first-size : length first ≡ 20 * plan_lanes d
  first-size = stage_length (plan_lanes d) d p 0 ∙ omega arith

  room-there : (table w : List ℕ) → w ≡ reads ++ first → 32768 ≤ length table → x.rounds ≤ 32
      → ScriptRoom d p b x table (put_mid (plan_lanes d) (to (plan_lanes d) - plan_lanes d) out w)
  room-there table w written t few =
      let n : ℕ = plan_lanes d in
      let r : ℕ = 2 * (n * x.rounds) in
      let end : to n ≡ n + r + 20 * n = omega arith in
      record {
        numbers = are;
        rounds = few;
        some = some_stages d p b k;
        wide = t;
        room = put_long n r (20 * n) (to n) end out reads first w to_inside reads-size first-size written ∙ out-long;
        reads = reads-there n r (20 * n) (to n) end out reads first w to_inside reads-size first-size written;
        first = first-there n r (20 * n) (to n) end out reads first w to_inside reads-size first-size written;
      }

  pub script_room : (table w : List ℕ) → w ≡ reads ++ first → 32768 ≤ length table → x.rounds ≤ 32 → ScriptRoom d p b x table (put_mid b.lanes (to b.lanes - b.lanes) out w)
  script_room table w written t few = subst (λ (n : ℕ). ScriptRoom d p b x table (put_mid n (to n - n) out w)) (sym k.body.lanes) (room-there table w written t few)

-- ---- the room afterwards: m words were lent for tables, and the first 65536 are zeros

module _ (m : ℕ) (room used : List ℕ) (lent : m ≤ 65536) (wide : 65536 ≤ length room) (kept : length used ≡ length (take m room)) where
  abbrev room₁ : List ℕ
  room₁ = used ++ drop m room

  used-size : length used ≡ m
  used-size = kept ∙ length-take-le m room (omega arith)

  still-wide : length room₁ ≡ length room
  still-wide = omega (arith, length-append used (drop m room), used-size, length-drop m room)

  rest_kept : drop 65536 room₁ ≡ drop 65536 room
  rest_kept =
      let rest : ℕ = 65536 - m in
      let a : 65536 ≡ length used + rest = omega (arith, used-size) in
      let z : m + rest ≡ 65536 = omega arith in
      ap (λ (n : ℕ). drop n room₁) a ∙ (drop-append-add used (drop m room) rest ∙ (drop-drop rest m room ∙ ap (λ (n : ℕ). drop n room) z))

  pub lent_size : length (take 65536 room₁) ≡ 65536
  lent_size = length-take-le 65536 room₁ (omega (arith, still-wide))

  pub room_left_lem : (z : List ℕ) → z ≡ replicate (length (take 65536 room₁)) 0 → z ++ drop 65536 room₁ ≡ replicate 65536 0 ++ drop 65536 room
  room_left_lem z cleared = ap₂ ◌++◌ (cleared ∙ ap (λ (n : ℕ). replicate n 0) lent_size) rest_kept
