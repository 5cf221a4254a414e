-- The entries are words of the table.
-- Assumes nothing.
use Rattle.std.proofs.Common.{◌≡◌, List, ℕ, ◌+◌, ◌*◌, ap₂, ◌∙◌, arith, rules}
use Rattle.words.specs.Section.{list_of}
use Rattle.plan_record.specs.Record.{plan_lanes, table_at}
use Rattle.script.specs.Script.{enable_section}
use Rattle.script.proofs.SectionsLaws.{section_held, section_room}
use Rattle.script_sections.proofs.sections.write_enables.Goals as goal

entries_are : (t : ℕ → ℕ) (l : List ℕ) (j k m n : ℕ) → l ≡ list_of (λ i. t (34 * j + i)) m → j ≡ k → m ≡ n → l ≡ list_of (λ i. t (34 * k + i)) n
entries_are t l j k m n e p q = e ∙ ap₂ (λ (x : ℕ) (y : ℕ). list_of (λ i. t (34 * x + i)) y) p q

pub read_table-requires : goal.read_table-requires
read_table-requires c = (c.requires.0, omega (arith, c.requires.2, c.args.part.now.of.lanes))

pub write_section-requires-clause-room : goal.write_section-requires-clause-room
write_section-requires-clause-room c =
    let of = c.args.part.now.of in
    let t = table_at c.args.part.now.d.now c.args.part.now.p in
    section_room _ _ of.lanes of.laid.lanes (λ i. t (34 * plan_lanes c.args.part.now.d.now + i)) _ _ (entries_are t _ _ _ _ _ c.read_table.ensures of.lanes c.requires.2) c.requires.0.enable c.requires.1

pub write_section-requires-clause-askable : goal.write_section-requires-clause-askable
write_section-requires-clause-askable c = λ w h. (c.requires.0, h)

pub returns : goal.returns
unfolding enable_section
returns c =
    let n = plan_lanes c.args.part.now.d.now in
    let t = table_at c.args.part.now.d.now c.args.part.now.p in
    section_held _ _ c.args.part.now.of.lanes _ _ (λ i. t (66 * n + i)) (λ i. t (67 * n + i)) (λ i. t (68 * n + i)) _ (c.write_section.ensures _ _ _ (λ w h x e. search rules))
    (entries_are t _ _ _ _ _ c.read_table.ensures c.args.part.now.of.lanes c.requires.2)
