-- The counts of 64 major stages at most are looked at.
-- Assumes nothing.
use Rattle.std.proofs.Common.{◌≡◌, ℕ, ◌+◌, ◌*◌, min, ap, ◌∙◌, arith}
use Rattle.plan_record.specs.Record.{majors_of, parts_before}
use Rattle.plan_record.specs.Form.{plan_room_words}
use Rattle.plan_record.proofs.places.room_words.Goals as goal

pub returns : goal.returns
unfolding plan_room_words
returns c =
    let few : c.min.result ≡ min (majors_of c.args.d.now) 64 = c.min.ensures ∙ ap (λ (m : ℕ). min m 64) c.word_at.ensures in
    (ap (λ (s : ℕ). 65536 + 16 * s) (c.parts_before.ensures.0 ∙ ap (parts_before c.args.d.now) few), omega arith)
