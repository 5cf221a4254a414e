-- Its whole gates, then one that is cut.
-- Assumes nothing.
use Rattle.std.proofs.Common.{rules, ◌≡◌, sym, ap, ◌∙◌, arith}
use Rattle.words.specs.Found.{item_of}
use Rattle.words.proofs.FoundLaws.{item_some, item_none}
use Rattle.gatelist.specs.GateList.{bad_over}
use Rattle.gatelist.specs.ListWords.{list_pin, list_first, list_second, whole_gates}
use Rattle.gatelist.proofs.ListWordLaws.{wrong_whole, wrong_cut, none_wrong}
use Rattle.gatelist.proofs.check_list.Goals as goal

pub returns-in-Some : goal.returns-in-Some
returns-in-Some c =
    let told : c.first_wrong-wrong.result ≡ item_of (bad_over (list_pin c.args.l.now) (list_first c.args.l.now) (list_second c.args.l.now) (whole_gates c.args.l.now)) =
    c.first_wrong-wrong.ensures (list_pin c.args.l.now) (list_first c.args.l.now) (list_second c.args.l.now) (λ i h x e. search rules) in
    sym (ap item_of (wrong_whole c.args.l.now _ (item_some _ _ (sym told ∙ c.in-Some.is))))

pub returns-then-l-gt0 : goal.returns-then-l-gt0
returns-then-l-gt0 c =
    let told : c.first_wrong-wrong.result ≡ item_of (bad_over (list_pin c.args.l.now) (list_first c.args.l.now) (list_second c.args.l.now) (whole_gates c.args.l.now)) =
    c.first_wrong-wrong.ensures (list_pin c.args.l.now) (list_first c.args.l.now) (list_second c.args.l.now) (λ i h x e. search rules) in
    sym (ap item_of (wrong_cut c.args.l.now (item_none _ (sym told ∙ c.in_default.is)) (omega arith)))

pub returns : goal.returns
returns c =
    let told : c.first_wrong-wrong.result ≡ item_of (bad_over (list_pin c.args.l.now) (list_first c.args.l.now) (list_second c.args.l.now) (whole_gates c.args.l.now)) =
    c.first_wrong-wrong.ensures (list_pin c.args.l.now) (list_first c.args.l.now) (list_second c.args.l.now) (λ i h x e. search rules) in
    sym (ap item_of (none_wrong c.args.l.now (item_none _ (sym told ∙ c.in_default.is)) (omega arith)))
