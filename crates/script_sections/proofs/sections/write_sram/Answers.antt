-- The entries are the table's first words.
-- Assumes nothing.
use Rattle.std.proofs.Common.{◌≡◌, List, ℕ, ◌+◌, ◌*◌, ap, ◌∙◌, arith, rules}
use Rattle.words.specs.Section.{list_of}
use Rattle.plan_record.specs.Record.{plan_lanes, table_at}
use Rattle.script.specs.Script.{sram_section}
use Rattle.script.proofs.SectionsLaws.{section_held, section_room, from_zero}
use Rattle.script_sections.proofs.sections.write_sram.Goals as goal

entries_are : (t : ℕ → ℕ) (l : List ℕ) (m n : ℕ) → l ≡ list_of (λ i. t (0 + i)) m → m ≡ n → l ≡ list_of t n
entries_are t l m n e q = e ∙ (ap (list_of (λ i. t (0 + i))) q ∙ from_zero t n)

pub read_table-requires : goal.read_table-requires
read_table-requires c = (c.requires.0, omega (arith, c.requires.2, c.args.part.now.of.lanes))

pub write_section-requires-clause-room : goal.write_section-requires-clause-room
write_section-requires-clause-room c =
    let of = c.args.part.now.of in
    section_room _ _ of.lanes of.laid.lanes (table_at c.args.part.now.d.now c.args.part.now.p) _ _
    (entries_are (table_at c.args.part.now.d.now c.args.part.now.p) _ _ _ c.read_table.ensures c.requires.2)
    c.requires.0.sram
    c.requires.1

pub write_section-requires-clause-askable : goal.write_section-requires-clause-askable
write_section-requires-clause-askable c = λ w h. (c.requires.0, h)

pub returns : goal.returns
unfolding sram_section
returns c =
    let n = plan_lanes c.args.part.now.d.now in
    let t = table_at c.args.part.now.d.now c.args.part.now.p in
    section_held _ _ c.args.part.now.of.lanes _ t (λ i. t (32 * n + i)) (λ i. t (33 * n + i)) (λ i. 0) _ (c.write_section.ensures _ _ _ (λ w h x e. search rules)) (entries_are t _ _ _ c.read_table.ensures c.requires.2)
