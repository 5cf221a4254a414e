-- The measure is the number itself: its tenth is smaller.
use Rattle.text.proofs.Writer.+put_decimal.Given as goal

abbrev pub decreases-put_decimal : goal.decreases-put_decimal
decreases-put_decimal l = l.n
