use Rattle.std.proofs.Common.{◌+◌, sym, ◌∙◌, subst, arith}
use Rattle.b67_model.specs.Common.{Session}
use Rattle.b67_law.specs.Turns.{IsNext}
use Rattle.b67_session.proofs.Standing.{chose_some, stands_chosen}
use Rattle.b67_session.proofs.Turned.{who}
use Rattle.b67_session.proofs.Noted.{place_other, switch_other, within_other, none_further, none_next, other_noted, idle_noted, one_noted}
use Rattle.b67_session.proofs.seeking.note_chosen.Goals as goal

pub returns-then-made-from : goal.returns-then-made-from
returns-then-made-from c = λ said start s h came noted. none_further c.args.what c.args.from c.args.made (c.args.made + 1) start c.args.best (omega arith) (omega arith) noted

pub returns-in-Place : goal.returns-in-Place
returns-in-Place c = λ said start s h came noted. other_noted c.args.what c.args.from c.args.made (c.args.made + 1) start c.args.best (λ e. place_other (sym c.in-Place.is ∙ e)) noted

pub returns-in-Switch : goal.returns-in-Switch
returns-in-Switch c = λ said start s h came noted. other_noted c.args.what c.args.from c.args.made (c.args.made + 1) start c.args.best (λ e. switch_other (sym c.in-Switch.is ∙ e)) noted

pub returns-in-Within : goal.returns-in-Within
returns-in-Within c = λ said start s h came noted. other_noted c.args.what c.args.from c.args.made (c.args.made + 1) start c.args.best (λ e. within_other c.in-Within._job c.in-Within._number c.in-Within._height (sym c.in-Within.is ∙ e)) noted

pub returns-in-None : goal.returns-in-None
returns-in-None c = λ said start s h came noted.
    idle_noted c.args.what c.args.from c.args.made start c.args.best (none_next c.args.made start s came (c.in-None.ensures.choice h.plan s h.ordered h.stands.tables)) noted

pub heights_of-requires : goal.heights_of-requires
heights_of-requires c =
    let i = c.requires.stands in
    chose_some i.said c.args.machine.now i.session i.stands c.in-Some.chosen (c.in-Some.ensures.choice i.stands.plan i.session i.stands.ordered i.stands.stands.tables)

pub returns-in-Some : goal.returns-in-Some
returns-in-Some c = λ said start s h came noted.
    let k = c.args.machine.now in
    let chooses = c.in-Some.ensures.choice h.plan s h.ordered h.stands.tables in
    let w = who said k s h c.in-Some.chosen chooses in
    let high = c.heights_of.ensures h.storage said h.plan s w.member w.task (stands_chosen said k s h c.in-Some.chosen chooses) in
    let next = subst (λ (z : Session). IsNext z w.member w.task) (sym came) w.next in
    one_noted c.args.from c.args.made c.heights_of.result.top start w.member w.task next high.0 (omega arith) c.args.what c.args.best c.deeper.result (λ e. c.deeper.ensures) (λ other. absurd (other c.in-Deepest.is)) noted
