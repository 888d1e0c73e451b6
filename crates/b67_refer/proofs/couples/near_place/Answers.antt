use Rattle.std.proofs.Common.{◌≤◌, refl, ap, subst, arith, ℕ, Result}
use Rattle.b67_word.specs.Tagged.{Tagged}
use Rattle.b67_word.specs.declared.faults.Fault.{Fault}
use Rattle.b67_model.specs.Cells.{cell}
use Rattle.b67_model.specs.Environment.{frame_at}
use Rattle.b67_layout.specs.Meets.{here}
use Rattle.b67_refer.specs.RunningContext.{live_of}
use Rattle.b67_refer.specs.LiveCells.{CellMeets}
use Rattle.b67_refer.proofs.Chains.{level_is, level_small}
use Rattle.b67_refer.proofs.Unders.{names_level, names_base, display_at}
use Rattle.b67_refer.proofs.Named.{level_names, level_inside}
use Rattle.b67_refer.proofs.couples.near_place.Goals as goal

pub returns-in-None-clause-names : goal.returns-in-None-clause-names
returns-in-None-clause-names c = λ some. absurd (some refl)

pub returns-in-None-clause-inside : goal.returns-in-None-clause-inside
returns-in-None-clause-inside c = λ some. absurd (some refl)

pub returns-in-None-clause-couple : goal.returns-in-None-clause-couple
returns-in-None-clause-couple c = λ some. absurd (some refl)

pub returns-in-None-clause-word : goal.returns-in-None-clause-word
returns-in-None-clause-word c = λ some. absurd (some refl)

pub couple_at-c-requires-clause-bits : goal.couple_at-c-requires-clause-bits
couple_at-c-requires-clause-bits c = c.in-Some.ensures.some.0.couple

pub couple_at-c-requires-clause-level : goal.couple_at-c-requires-clause-level
couple_at-c-requires-clause-level c = let a = c.requires.0 in omega (arith, level_is c.args.core.now c.args.regs.now a, level_small c.args.core.now c.args.regs.now a)

pub returns-then-c-regs-clause-names : goal.returns-then-c-regs-clause-names
returns-then-c-regs-clause-names c = λ some. absurd (some refl)

pub returns-then-c-regs-clause-inside : goal.returns-then-c-regs-clause-inside
returns-then-c-regs-clause-inside c = λ some. absurd (some refl)

pub returns-then-c-regs-clause-couple : goal.returns-then-c-regs-clause-couple
returns-then-c-regs-clause-couple c = λ some. absurd (some refl)

pub returns-then-c-regs-clause-word : goal.returns-then-c-regs-clause-word
returns-then-c-regs-clause-word c = λ some. absurd (some refl)

pub bounds-display-c : goal.bounds-display-c
bounds-display-c c = let a = c.requires.0 in omega (arith, c.if-c-regs.false, level_is c.args.core.now c.args.regs.now a, level_small c.args.core.now c.args.regs.now a)

pub top_cell-top-requires : goal.top_cell-top-requires
top_cell-top-requires c =
    let (a, shown) = c.requires in
    let q = a.task.place in
    let low : c.couple_at-c.result.level ≤ c.args.regs.now.level = omega (arith, c.if-c-regs.false) in
    (c.args.core.now, live_of a, (frame_at (here a.member a.task q) c.couple_at-c.result.level).identity, names_level c.args.core.now c.args.regs.now a q c.args.display.now shown c.couple_at-c.result low, display_at c.args.core.now c.args.regs.now a q c.args.display.now shown c.couple_at-c.result low)

pub returns-then-top-ne0-clause-names : goal.returns-then-top-ne0-clause-names
returns-then-top-ne0-clause-names c = λ some.
    let low : c.couple_at-c.result.level ≤ c.args.regs.now.level = omega (arith, c.if-c-regs.false) in
    level_names c.args.core.now c.args.regs.now c.args.display.now c.couple_at-c.result low c.top_cell-top.result
    (λ a q shown. c.top_cell-top.ensures c.if-top-ne0.true c.args.core.now (live_of a) q (frame_at (here a.member a.task q) c.couple_at-c.result.level).identity (names_level c.args.core.now c.args.regs.now a q c.args.display.now shown c.couple_at-c.result low) (display_at c.args.core.now c.args.regs.now a q c.args.display.now shown c.couple_at-c.result low) (omega (arith, c.if-c-lt2.false)))
    c.args.w c.in-Some.name c.in-Some.ensures.some.0 c.in-Some.ensures.some.1 c.couple_at-c.ensures

pub returns-then-top-ne0-clause-inside : goal.returns-then-top-ne0-clause-inside
returns-then-top-ne0-clause-inside c = λ some.
    let low : c.couple_at-c.result.level ≤ c.args.regs.now.level = omega (arith, c.if-c-regs.false) in
    level_inside c.args.core.now c.args.regs.now c.args.display.now c.couple_at-c.result low c.top_cell-top.result
    (λ a q shown. c.top_cell-top.ensures c.if-top-ne0.true c.args.core.now (live_of a) q (frame_at (here a.member a.task q) c.couple_at-c.result.level).identity (names_level c.args.core.now c.args.regs.now a q c.args.display.now shown c.couple_at-c.result low) (display_at c.args.core.now c.args.regs.now a q c.args.display.now shown c.couple_at-c.result low) (omega (arith, c.if-c-lt2.false)))
    c.requires.0 c.requires.1

pub returns-then-top-ne0-clause-couple : goal.returns-then-top-ne0-clause-couple
returns-then-top-ne0-clause-couple c = λ some. ap (λ (x : Tagged). x.tag) c.in-Some.ensures.some.1

pub returns-then-top-ne0-clause-word : goal.returns-then-top-ne0-clause-word
returns-then-top-ne0-clause-word c = λ some. (c.in-Some.name, c.in-Some.ensures.some.0, c.in-Some.ensures.some.1)

pub record_cell-requires : goal.record_cell-requires
record_cell-requires c =
    let (a, shown) = c.requires in
    let q = a.task.place in
    let low : c.couple_at-c.result.level ≤ c.args.regs.now.level = omega (arith, c.if-c-regs.false) in
    (live_of a, (frame_at (here a.member a.task q) c.couple_at-c.result.level).identity, names_level c.args.core.now c.args.regs.now a q c.args.display.now shown c.couple_at-c.result low, display_at c.args.core.now c.args.regs.now a q c.args.display.now shown c.couple_at-c.result low, ((λ z. absurd (let no : ⊥ = cc in no)), (λ z. names_base c.args.core.now c.args.regs.now a q c.args.display.now shown c.couple_at-c.result (omega (arith, c.if-c-lt2-2.true)))))

pub returns-in-Ok-clause-names : goal.returns-in-Ok-clause-names
returns-in-Ok-clause-names c = λ some.
    let low : c.couple_at-c.result.level ≤ c.args.regs.now.level = omega (arith, c.if-c-regs.false) in
    level_names c.args.core.now c.args.regs.now c.args.display.now c.couple_at-c.result low c.in-Ok.at
    (λ a q shown.
    (let R : Result ℕ Fault → Type 0 = λ z. CellMeets (live_of a) q (frame_at (here a.member a.task q) c.couple_at-c.result.level).identity c.couple_at-c.result.disp z (cell (here a.member a.task q) (frame_at (here a.member a.task q) c.couple_at-c.result.level).identity c.couple_at-c.result.disp) in
    subst R c.in-Ok.is (c.record_cell.ensures (live_of a) q (frame_at (here a.member a.task q) c.couple_at-c.result.level).identity (names_level c.args.core.now c.args.regs.now a q c.args.display.now shown c.couple_at-c.result low) (display_at c.args.core.now c.args.regs.now a q c.args.display.now shown c.couple_at-c.result low) ((λ z. absurd (let no : ⊥ = cc in no)), (λ z. names_base c.args.core.now c.args.regs.now a q c.args.display.now shown c.couple_at-c.result (omega (arith, c.if-c-lt2-2.true)))))))
    c.args.w c.in-Some.name c.in-Some.ensures.some.0 c.in-Some.ensures.some.1 c.couple_at-c.ensures

pub returns-in-Ok-clause-inside : goal.returns-in-Ok-clause-inside
returns-in-Ok-clause-inside c = λ some.
    let low : c.couple_at-c.result.level ≤ c.args.regs.now.level = omega (arith, c.if-c-regs.false) in
    level_inside c.args.core.now c.args.regs.now c.args.display.now c.couple_at-c.result low c.in-Ok.at
    (λ a q shown.
    (let R : Result ℕ Fault → Type 0 = λ z. CellMeets (live_of a) q (frame_at (here a.member a.task q) c.couple_at-c.result.level).identity c.couple_at-c.result.disp z (cell (here a.member a.task q) (frame_at (here a.member a.task q) c.couple_at-c.result.level).identity c.couple_at-c.result.disp) in
    subst R c.in-Ok.is (c.record_cell.ensures (live_of a) q (frame_at (here a.member a.task q) c.couple_at-c.result.level).identity (names_level c.args.core.now c.args.regs.now a q c.args.display.now shown c.couple_at-c.result low) (display_at c.args.core.now c.args.regs.now a q c.args.display.now shown c.couple_at-c.result low) ((λ z. absurd (let no : ⊥ = cc in no)), (λ z. names_base c.args.core.now c.args.regs.now a q c.args.display.now shown c.couple_at-c.result (omega (arith, c.if-c-lt2-2.true)))))))
    c.requires.0 c.requires.1

pub returns-in-Ok-clause-couple : goal.returns-in-Ok-clause-couple
returns-in-Ok-clause-couple c = λ some. ap (λ (x : Tagged). x.tag) c.in-Some.ensures.some.1

pub returns-in-Ok-clause-word : goal.returns-in-Ok-clause-word
returns-in-Ok-clause-word c = λ some. (c.in-Some.name, c.in-Some.ensures.some.0, c.in-Some.ensures.some.1)

pub returns-in-Err-clause-names : goal.returns-in-Err-clause-names
returns-in-Err-clause-names c = λ some. absurd (some refl)

pub returns-in-Err-clause-inside : goal.returns-in-Err-clause-inside
returns-in-Err-clause-inside c = λ some. absurd (some refl)

pub returns-in-Err-clause-couple : goal.returns-in-Err-clause-couple
returns-in-Err-clause-couple c = λ some. absurd (some refl)

pub returns-in-Err-clause-word : goal.returns-in-Err-clause-word
returns-in-Err-clause-word c = λ some. absurd (some refl)

pub mark_over-requires : goal.mark_over-requires
mark_over-requires c = let a = c.requires.0 in omega (arith, level_is c.args.core.now c.args.regs.now a, level_small c.args.core.now c.args.regs.now a)

pub under_cell-requires : goal.under_cell-requires
under_cell-requires c =
    let (a, shown) = c.requires in
    let q = a.task.place in
    let low : c.couple_at-c.result.level ≤ c.args.regs.now.level = omega (arith, c.if-c-regs.false) in
    (live_of a, (frame_at (here a.member a.task q) c.couple_at-c.result.level).identity, names_level c.args.core.now c.args.regs.now a q c.args.display.now shown c.couple_at-c.result low, display_at c.args.core.now c.args.regs.now a q c.args.display.now shown c.couple_at-c.result low, omega (arith, c.if-c-lt2.false), c.mark_over.ensures c.args.core.now a shown (omega (arith, c.if-c-lt2-2.false)))

pub returns-clause-names : goal.returns-clause-names
returns-clause-names c = λ some.
    let low : c.couple_at-c.result.level ≤ c.args.regs.now.level = omega (arith, c.if-c-regs.false) in
    level_names c.args.core.now c.args.regs.now c.args.display.now c.couple_at-c.result low c.under_cell.result
    (λ a q shown. c.under_cell.ensures some (live_of a) q (frame_at (here a.member a.task q) c.couple_at-c.result.level).identity (names_level c.args.core.now c.args.regs.now a q c.args.display.now shown c.couple_at-c.result low) (display_at c.args.core.now c.args.regs.now a q c.args.display.now shown c.couple_at-c.result low) (omega (arith, c.if-c-lt2.false)) (c.mark_over.ensures c.args.core.now a shown (omega (arith, c.if-c-lt2-2.false))))
    c.args.w c.in-Some.name c.in-Some.ensures.some.0 c.in-Some.ensures.some.1 c.couple_at-c.ensures

pub returns-clause-inside : goal.returns-clause-inside
returns-clause-inside c = λ some.
    let low : c.couple_at-c.result.level ≤ c.args.regs.now.level = omega (arith, c.if-c-regs.false) in
    level_inside c.args.core.now c.args.regs.now c.args.display.now c.couple_at-c.result low c.under_cell.result
    (λ a q shown. c.under_cell.ensures some (live_of a) q (frame_at (here a.member a.task q) c.couple_at-c.result.level).identity (names_level c.args.core.now c.args.regs.now a q c.args.display.now shown c.couple_at-c.result low) (display_at c.args.core.now c.args.regs.now a q c.args.display.now shown c.couple_at-c.result low) (omega (arith, c.if-c-lt2.false)) (c.mark_over.ensures c.args.core.now a shown (omega (arith, c.if-c-lt2-2.false))))
    c.requires.0 c.requires.1

pub returns-clause-couple : goal.returns-clause-couple
returns-clause-couple c = λ some. ap (λ (x : Tagged). x.tag) c.in-Some.ensures.some.1

pub returns-clause-word : goal.returns-clause-word
returns-clause-word c = λ some. (c.in-Some.name, c.in-Some.ensures.some.0, c.in-Some.ensures.some.1)
