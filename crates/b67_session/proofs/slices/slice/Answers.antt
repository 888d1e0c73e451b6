use Rattle.std.proofs.Common.{rules, ◌≢◌, ℕ, List, Option, None, sym, ap, subst, inl, inr, refl, arith}
use Rattle.b67_layout.specs.Machine.{content_after}
use Rattle.b67_layout.proofs.Devices.{Served-none}
use Rattle.b67_layout.proofs.Retold.{retold-same}
use Rattle.b67_task.specs.declared.tables.Tasks.{Tasks}
use Rattle.b67_session.specs.AttemptPassed.{AreCountable}
use Rattle.b67_session.specs.Slices.{StandsLimited, goes_well}
use Rattle.b67_session.proofs.Shaping.{shaped}
use Rattle.b67_session.proofs.Going.{Going, going-begins, going-ended}
use Rattle.b67_session.proofs.Pausing.{says_retold}
use Rattle.b67_session.proofs.Paging.{nothing_paged}
use Rattle.b67_session.proofs.Rows.{empty_rows, some_rows}
use Rattle.b67_task.proofs.Keeping.{keeps_then, countable_kept}
use Rattle.b67_session.proofs.Resuming.{stands_not, limited_not, rests_not, next_row, limited_row, open_stands, open_limited, has_limited, over_stands, over_prints, cut_again, cut_limited}
use Rattle.b67_session.proofs.Again.{open_again, limited}
use Rattle.b67_session.proofs.Completing.{no_fault, completes}
use Rattle.b67_session.proofs.slices.slice.Given.{Over}
use Rattle.b67_session.proofs.slices.slice.Goals.{Else-not-is_at_limit}
use Rattle.b67_session.proofs.slices.slice.Goals as goal

-- ---- no task

pub returns-then-is_empty-clause-row : goal.returns-then-is_empty-clause-row
returns-then-is_empty-clause-row g c = λ said s says h.
    (let k = c.args.machine.now in
    let told = g.B.Backing.holds c.args.backing.now in
    let P : Option (List (List ℕ)) → Type 0 = λ d. Going g.K.Sink.taken (said ≢ None) d 0 s k k c.args.paper.now c.args.paper.now in
    going-ended g.K.Sink.taken (said ≢ None) (content_after said told) (g.B.Backing.size c.args.backing.now) c.args.n 0 s k k c.args.paper.now c.args.paper.now
    (subst P (sym (retold-same said told says)) (going-begins g.K.Sink.taken (said ≢ None) said s k c.args.paper.now h)) (omega arith) (empty_rows k.tasks c.if-is_empty.ensures))

pub returns-then-is_empty-clause-present : goal.returns-then-is_empty-clause-present
returns-then-is_empty-clause-present g c = λ said s m t says h n. absurd (next_row said c.args.machine.now s m t h n (empty_rows c.args.machine.now.tasks c.if-is_empty.ensures))

pub returns-then-is_empty-clause-resumed : goal.returns-then-is_empty-clause-resumed
returns-then-is_empty-clause-resumed g c = λ said h part says l. absurd (limited_row said c.args.machine.now h part l (empty_rows c.args.machine.now.tasks c.if-is_empty.ensures))

-- ---- a step, if any

pub go_on-requires-clause-begins : goal.go_on-requires-clause-begins
go_on-requires-clause-begins g c = record {
  stands = open_stands (g.B.Backing.holds c.args.backing.now) c.args.machine.now c.requires.open (some_rows c.args.machine.now.tasks c.if-is_empty.ensures) c.is_at_limit.ensures c.if-not-is_at_limit.true;
  countable = c.requires.open.countable;
}

pub returns-then-not-is_at_limit-clause-resumed : goal.returns-then-not-is_at_limit-clause-resumed
returns-then-not-is_at_limit-clause-resumed g c = λ said h part says l. absurd (limited_not said c.args.machine.now h part l c.is_at_limit.ensures c.if-not-is_at_limit.true)

pub returns-then-not-is_at_limit-clause-complete : goal.returns-then-not-is_at_limit-clause-complete
returns-then-not-is_at_limit-clause-complete g c = λ said s tells says sets ample calm quiet.
    completes g.B.Backing.holds g.K.Sink.taken said (content_after said (g.B.Backing.holds c.go_on.new.backing)) (g.B.Backing.size c.args.backing.now) c.args.n c.go_on.result c.args.machine.now c.go_on.new.machine
    c.args.backing.now c.go_on.new.backing c.args.paper.now c.go_on.new.paper
    (λ s h. c.go_on.ensures.row said s says h) (λ h part l. returns-then-not-is_at_limit-clause-resumed g c said h part says l) c.go_on.ensures.leaves.kept tells s sets ample
    (no_fault g.B.Backing.faults g.K.Sink.faults c.args.backing.now c.go_on.new.backing c.args.paper.now c.go_on.new.paper c.go_on.result c.go_on.ensures.leaves.causes calm quiet)

-- ---- the lines of LIMIT

context : (g : Over) (c : Else-not-is_at_limit g) → StandsLimited (g.B.Backing.holds c.args.backing.now) c.args.machine.now
context g c = open_limited (g.B.Backing.holds c.args.backing.now) c.args.machine.now c.requires.open (some_rows c.args.machine.now.tasks c.if-is_empty.ensures) c.is_at_limit.ensures c.if-not-is_at_limit.false

pub end_by_limit-requires : goal.end_by_limit-requires
end_by_limit-requires g c = has_limited (g.B.Backing.holds c.args.backing.now) c.args.machine.now (context g (goal.at.end_by_limit-requires g c).Else-not-is_at_limit)

pub go_on-requires-in-Ok-clause-begins : goal.go_on-requires-in-Ok-clause-begins
go_on-requires-in-Ok-clause-begins g c =
    let l = context g (goal.at.go_on-requires-in-Ok-clause-begins g c).Else-not-is_at_limit in
    let q = l.limited in
    record {
      stands = record {
        said = l.said;
        says = l.says;
        session = l.part.session;
        stands = over_stands l.said l.session l.part c.args.machine.now q g.K.Sink.taken c.end_by_limit.new.machine c.args.paper.now c.end_by_limit.new.paper
            (c.in-Ok.ensures.ends q.storage l.said q.plan l.session l.part q.ordered q.is q.stands);
      };
      countable = subst (λ (z : Tasks). AreCountable z.jobs) (sym c.end_by_limit.ensures.tasks) c.requires.open.countable;
    }

pub go_on-requires-in-Ok-clause-sized : goal.go_on-requires-in-Ok-clause-sized
go_on-requires-in-Ok-clause-sized g c = omega (arith, c.end_by_limit.ensures.keeps.sectors, c.requires.sized)

pub returns-in-Ok-clause-row : goal.returns-in-Ok-clause-row
returns-in-Ok-clause-row g c = λ said s says h. absurd (stands_not said c.args.machine.now s h c.is_at_limit.ensures c.if-not-is_at_limit.false)

pub returns-in-Ok-clause-present : goal.returns-in-Ok-clause-present
returns-in-Ok-clause-present g c = λ said s m t says h n. absurd (stands_not said c.args.machine.now s h c.is_at_limit.ensures c.if-not-is_at_limit.false)

pub returns-in-Ok-clause-resumed : goal.returns-in-Ok-clause-resumed
returns-in-Ok-clause-resumed g c = λ said h part says l.
    (let ends = c.in-Ok.ensures.ends l.storage said l.plan h part l.ordered l.is l.stands in
    let stands = over_stands said h part c.args.machine.now l g.K.Sink.taken c.end_by_limit.new.machine c.args.paper.now c.end_by_limit.new.paper ends in
    inr (record {
      middle = c.end_by_limit.new.machine;
      printer = c.end_by_limit.new.paper;
      stands = stands;
      made = ap (λ (z : Tasks). z.made) c.end_by_limit.ensures.tasks;
      unprinted = ends.1;
      keeps = c.end_by_limit.ensures.keeps;
      prints = over_prints said h part c.args.machine.now l g.K.Sink.taken c.end_by_limit.new.machine c.args.paper.now c.end_by_limit.new.paper ends;
      slices = c.go_on-in-Ok.ensures.row said part.session says stands;
      present = λ q m t n. c.go_on-in-Ok.ensures.present said part.session m t says q n;
      pages = c.go_on-in-Ok.ensures.paged;
      rests = λ none. (c.go_on-in-Ok.ensures.ended said part.session (record { storage = stands.storage; plan = stands.plan; stands = stands.stands; none = none })).backing;
    }))

pub returns-in-Ok-clause-ended : goal.returns-in-Ok-clause-ended
returns-in-Ok-clause-ended g c = λ said s r. absurd (rests_not said c.args.machine.now s r (some_rows c.args.machine.now.tasks c.if-is_empty.ensures))

pub returns-in-Ok-clause-complete : goal.returns-in-Ok-clause-complete
returns-in-Ok-clause-complete g c = λ said s tells says sets ample calm quiet.
    (let causes = c.go_on-in-Ok.ensures.leaves.causes in
    let later = c.in-Ok.ensures.cause.later in
    completes g.B.Backing.holds g.K.Sink.taken said (content_after said (g.B.Backing.holds c.go_on-in-Ok.new.backing)) (g.B.Backing.size c.args.backing.now) c.args.n c.go_on-in-Ok.result c.args.machine.now c.go_on-in-Ok.new.machine
    c.args.backing.now c.go_on-in-Ok.new.backing c.args.paper.now c.go_on-in-Ok.new.paper
    (λ s h. absurd (stands_not said c.args.machine.now s h c.is_at_limit.ensures c.if-not-is_at_limit.false)) (λ h part l. returns-in-Ok-clause-resumed g c said h part says l) (keeps_then c.args.machine.now c.end_by_limit.new.machine c.go_on-in-Ok.new.machine c.end_by_limit.ensures.keeps c.go_on-in-Ok.ensures.leaves.kept) tells s sets ample
    (λ e. (let rose = causes.device e in omega (arith, rose, calm)), λ e. (let rose = causes.printer.failed e in omega (arith, later, rose, quiet))))

pub returns-in-Err-clause-row : goal.returns-in-Err-clause-row
returns-in-Err-clause-row g c = λ said s says h. absurd (stands_not said c.args.machine.now s h c.is_at_limit.ensures c.if-not-is_at_limit.false)

pub returns-in-Err-clause-present : goal.returns-in-Err-clause-present
returns-in-Err-clause-present g c = λ said s m t says h n. absurd (stands_not said c.args.machine.now s h c.is_at_limit.ensures c.if-not-is_at_limit.false)

pub returns-in-Err-clause-resumed : goal.returns-in-Err-clause-resumed
returns-in-Err-clause-resumed g c = λ said h part says l.
    (let ends = c.in-Err.ensures.ends l.storage said l.plan h part l.ordered l.is l.stands in
    inl (cut_again said h part c.args.machine.now l g.K.Sink.taken c.end_by_limit.new.machine c.args.paper.now c.end_by_limit.new.paper c.in-Err._failed c.args.backing.now ends))

pub returns-in-Err-clause-ended : goal.returns-in-Err-clause-ended
returns-in-Err-clause-ended g c = λ said s r. absurd (rests_not said c.args.machine.now s r (some_rows c.args.machine.now.tasks c.if-is_empty.ensures))

pub returns-in-Err-clause-complete : goal.returns-in-Err-clause-complete
returns-in-Err-clause-complete g c = λ said s tells says sets ample calm quiet. (let rose = c.in-Err.ensures.cause.failed in absurd (omega (arith, rose, quiet)))

-- ---- what each leaves

pub returns-then-is_empty-clause-leaves : goal.returns-then-is_empty-clause-leaves
returns-then-is_empty-clause-leaves g c =
    let goes_on = c.requires.open in
    record {
      goes_on = goes_on;
      shaped = shaped _ _ goes_on;
      causes = search rules;
      keeps = search rules;
      served = Served-none g.B.Backing.holds g.B.Backing.size g.B.Backing.calls g.B.Backing.faults c.args.backing.now;
      paged = λ said s says h. goes_well refl (nothing_paged g.B.Backing.holds c.args.machine.now c.args.backing.now);
    }

pub returns-then-not-is_at_limit-clause-leaves : goal.returns-then-not-is_at_limit-clause-leaves
returns-then-not-is_at_limit-clause-leaves g c =
    let goes_on = (let l = open_stands (g.B.Backing.holds c.args.backing.now) c.args.machine.now c.requires.open (some_rows c.args.machine.now.tasks c.if-is_empty.ensures) c.is_at_limit.ensures c.if-not-is_at_limit.true in
    open_again g.K.Sink.taken (content_after l.said (g.B.Backing.holds c.go_on.new.backing)) (g.B.Backing.holds c.go_on.new.backing) (l.said ≢ None) (g.B.Backing.size c.args.backing.now) c.args.n l.session c.go_on.result
    c.args.machine.now c.go_on.new.machine c.args.paper.now c.go_on.new.paper (says_retold l.said (g.B.Backing.holds c.go_on.new.backing)) (countable_kept c.args.machine.now c.go_on.new.machine c.go_on.ensures.leaves.kept c.requires.open.countable) (c.go_on.ensures.row l.said l.session l.says l.stands)) in
    record {
      goes_on = goes_on;
      shaped = shaped _ _ goes_on;
      causes = c.go_on.ensures.leaves.causes;
      keeps = c.go_on.ensures.leaves.kept;
      served = c.go_on.ensures.leaves.served;
      paged = λ said s says h. c.go_on.ensures.paged;
    }

pub returns-in-Ok-clause-leaves : goal.returns-in-Ok-clause-leaves
returns-in-Ok-clause-leaves g c =
    let goes_on = (let l = context g (goal.at.returns-in-Ok-clause-leaves g c).Else-not-is_at_limit in
    let q = l.limited in
    let stands = over_stands l.said l.session l.part c.args.machine.now q g.K.Sink.taken c.end_by_limit.new.machine c.args.paper.now c.end_by_limit.new.paper (c.in-Ok.ensures.ends q.storage l.said q.plan l.session l.part q.ordered q.is q.stands) in
    open_again g.K.Sink.taken (content_after l.said (g.B.Backing.holds c.go_on-in-Ok.new.backing)) (g.B.Backing.holds c.go_on-in-Ok.new.backing) (l.said ≢ None) (g.B.Backing.size c.args.backing.now) c.args.n l.part.session c.go_on-in-Ok.result
    c.end_by_limit.new.machine c.go_on-in-Ok.new.machine c.end_by_limit.new.paper c.go_on-in-Ok.new.paper (says_retold l.said (g.B.Backing.holds c.go_on-in-Ok.new.backing)) (countable_kept c.end_by_limit.new.machine c.go_on-in-Ok.new.machine c.go_on-in-Ok.ensures.leaves.kept (subst (λ (z : Tasks). AreCountable z.jobs) (sym c.end_by_limit.ensures.tasks) c.requires.open.countable)) (c.go_on-in-Ok.ensures.row l.said l.part.session l.says stands)) in
    record {
      goes_on = goes_on;
      shaped = shaped _ _ goes_on;
      causes = search rules;
      keeps = keeps_then c.args.machine.now c.end_by_limit.new.machine c.go_on-in-Ok.new.machine c.end_by_limit.ensures.keeps c.go_on-in-Ok.ensures.leaves.kept;
      served = c.go_on-in-Ok.ensures.leaves.served;
      paged = λ said s says h. absurd (stands_not said c.args.machine.now s h c.is_at_limit.ensures c.if-not-is_at_limit.false);
    }

pub returns-in-Err-clause-leaves : goal.returns-in-Err-clause-leaves
returns-in-Err-clause-leaves g c =
    let goes_on = (let l = context g (goal.at.returns-in-Err-clause-leaves g c).Else-not-is_at_limit in
    let q = l.limited in
    limited l.said (g.B.Backing.holds c.args.backing.now) c.end_by_limit.new.machine l.says
    (subst (λ (z : Tasks). AreCountable z.jobs) (sym c.end_by_limit.ensures.tasks) c.requires.open.countable) l.session l.part
    (cut_limited l.said l.session l.part c.args.machine.now q g.K.Sink.taken c.end_by_limit.new.machine c.args.paper.now c.end_by_limit.new.paper c.in-Err._failed
    (c.in-Err.ensures.ends q.storage l.said q.plan l.session l.part q.ordered q.is q.stands))) in
    record {
      goes_on = goes_on;
      shaped = shaped _ _ goes_on;
      causes = search rules;
      keeps = c.end_by_limit.ensures.keeps;
      served = Served-none g.B.Backing.holds g.B.Backing.size g.B.Backing.calls g.B.Backing.faults c.args.backing.now;
      paged = λ said s says h. absurd (stands_not said c.args.machine.now s h c.is_at_limit.ensures c.if-not-is_at_limit.false);
    }
