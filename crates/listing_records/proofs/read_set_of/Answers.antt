-- `listing_records::read_set_of` meets its contract: the keys read are at the front of the lent words, and small.
-- Assumes nothing.
use mathlib.Core.Path.{sym, ◌∙◌}
use Rattle.std.proofs.lemmas.Result.{err_from_is_err_and}
use Rattle.listing_records.proofs.RecordBitLaws.{refused_in, set-refused, set_asked, told_none, told_few, told_keys, told_front, told_settable}
use Rattle.listing_records.proofs.read_set_of.Goals as goal

pub returns-in_err-n : goal.returns-in_err-n
returns-in_err-n c =
    let p = err_from_is_err_and c.from_residual.result c.from_residual.ensures.1 in
    let told = set-refused _ _ _ (refused_in _ _ _ (rw c.requires.1 at (sym c.in_err-n.was ∙ c.read_records.ensures.value))) in
    rw (p.1, p.2) (record { value = told.0; set_after = told.1 })

pub slice_bounds-read_set-end : goal.slice_bounds-read_set-end
slice_bounds-read_set-end c =
    told_few c.args.s.now c.args.keys.now c.requires.1 c.read_records.ensures.keys_after _ (sym c.in_ok-n.was ∙ c.read_records.ensures.value)

pub slice_bounds-read_set-end-2 : goal.slice_bounds-read_set-end-2
slice_bounds-read_set-end-2 c =
    told_front c.args.s.now c.args.keys.now c.requires.1 c.read_records.ensures.keys_after _ (sym c.in_ok-n.was ∙ c.read_records.ensures.value)

pub read_set-requires : goal.read_set-requires
read_set-requires c =
    told_settable c.args.s.now c.args.keys.now c.requires.1 c.read_records.ensures.keys_after _ (sym c.in_ok-n.was ∙ c.read_records.ensures.value) _ _ (λ i. (c.type_inv.s i).fits) c.requires.2 c.requires.0

pub returns : goal.returns
returns c =
    let is = sym c.in_ok-n.was ∙ c.read_records.ensures.value in
    let told = set_asked _ _ _ _ _ (told_none c.args.s.now c.args.keys.now c.requires.1 c.read_records.ensures.keys_after _ is)
    (told_keys c.args.s.now c.args.keys.now c.requires.1 c.read_records.ensures.keys_after _ is) c.read_set.ensures.value c.read_set.ensures.set_after in
    record { value = told.0; set_after = told.1 }
