-- `run_turns::capture::capture_word` meets its contract: by the test on the location's stage.
-- Assumes nothing.
use Rattle.run_turns.proofs.CaptureLaws.{word_here, word_kept}
use Rattle.run_turns.proofs.capture.capture_word.Goals as goal

pub returns-then-place-k : goal.returns-then-place-k
returns-then-place-k c = word_here _ _ _ _ _ _ _ _ _ c.location-place.ensures.0 c.location-place.ensures.1 c.if-place-k.true

pub returns-else-place-k : goal.returns-else-place-k
returns-else-place-k c = word_kept _ _ _ _ _ _ _ c.location-place.ensures.0 c.if-place-k.false
