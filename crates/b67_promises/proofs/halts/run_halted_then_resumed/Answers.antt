use Rattle.std.proofs.Common.{ℕ, List, Option, None, sym, ap, subst, inl, ◌∙◌, arith}
use Rattle.b67_model.specs.Common.{Session, lines, after}
use Rattle.b67_job.specs.Runs.{StandsAt}
use Rattle.b67_job.specs.Device.{device_of}
use Rattle.b67_job.specs.Statuses.{StatusMeans}
use Rattle.b67_job.specs.Runs.{run_of, WasOpened}
use Rattle.b67_job.specs.Judgement.{judgement}
use Rattle.b67_image.specs.Meaning.{told_in}
use Rattle.b67_program.proofs.Answering.{tells_on}
use Rattle.b67_promises.proofs.TurnCalls.{prepared_is}
use Rattle.b67_promises.proofs.Words.{asks_run}
use Rattle.b67_promises.proofs.Cores.{is_run, run_opens}
use Rattle.b67_promises.proofs.MoreCore.{whole_run}
use Rattle.b67_promises.proofs.RestEnds as rest
use Rattle.b67_promises.proofs.RestBegins as begins
use Rattle.b67_promises.proofs.Calls.{call_prints}
use Rattle.b67_promises.proofs.OneImage.{parts_are}
use Rattle.b67_promises.proofs.Halves as halves
use Rattle.b67_promises.proofs.ReadBack.{read_back, not_refused}
use Rattle.b67_promises.proofs.halts.run_halted_then_resumed.Goals as goal

pub returns-clause-together : goal.returns-clause-together
returns-clause-together g c = λ bytes other before text w w' w'' told told' differ took took' given tells tells' three zero zero'.
    let one = device_of g.B.Backing.holds g.B.Backing.size g.B.Backing.faults c.args.backing.now c.run-halted.new.backing in
    let two = device_of g.B.Backing.holds g.B.Backing.size g.B.Backing.faults c.run-halted.new.backing c.run-resumed.new.backing in
    let means = subst (λ (n : ℕ). StatusMeans c.args.words.now g.S.Source.left g.S.Source.faults c.args.deck.now c.run-halted.new.deck one c.run-halted.result.machine g.K.Sink.taken g.K.Sink.faults c.args.printer.now c.run-halted.new.printer n) three c.run-halted.ensures.status in
    let h = halves.halted_run c.args.words.now g.S.Source.left g.S.Source.faults c.args.deck.now c.run-halted.new.deck one c.run-halted.result.machine g.K.Sink.taken g.K.Sink.faults c.args.printer.now c.run-halted.new.printer bytes before text w told tells took took' means in
    let names = halves.names_of c.args.words.now g.S.Source.left g.S.Source.faults c.args.deck.now c.run-halted.new.deck one c.run-halted.result.machine g.K.Sink.taken g.K.Sink.faults c.args.printer.now c.run-halted.new.printer bytes before text w told tells took took' h (c.run-halted.ensures.opened h.k h.is) in
    let typed = c.outcome_is_typed.ensures h.k h.is in
    let s0 : Session = (run_of h.p).session in
    let made : ℕ = h.k.tasks.made in
    let s : Session = after made s0 in
    let stands = subst (λ (t : Option (List (List ℕ))). StandsAt t h.k s) (halves.known_is (g.B.Backing.holds c.args.backing.now) (g.B.Backing.holds c.run-halted.new.backing) tells) h.stands in
    let still = tells_on g.B.Backing.holds g.B.Backing.size g.B.Backing.calls g.B.Backing.faults c.args.backing.now c.run-halted.new.backing c.run-halted.ensures.device tells in
    let means' = subst (λ (n : ℕ). StatusMeans c.args.resume_words.now g.I.Source.left g.I.Source.faults c.args.image.now c.run-resumed.new.deck two c.run-resumed.result.machine g.L.Sink.taken g.L.Sink.faults c.args.resume_printer.now c.run-resumed.new.printer n) zero c.run-resumed.ensures.status in
    let rest = halves.rest_of_run c.args.resume_words.now g.I.Source.left g.I.Source.faults c.args.image.now c.run-resumed.new.deck two c.run-resumed.result.machine g.L.Sink.taken g.L.Sink.faults c.args.resume_printer.now c.run-resumed.new.printer
    w' still s h.k stands text given c.parts_tell_sessions.ensures
    (λ card p few is. parts_are (lines made s0) made h.k _ card p (subst (λ (t : List ℕ). halves.IsShort t) h.printed few) typed names (ap (told_in _) (sym h.printed) ∙ is)) means' in
    let j = judgement other in
    let call = call_prints g.M.Sink.taken g.M.Sink.faults c.args.whole_printer.now c.run-whole.new.printer j None (asks_run c.args.whole_words.now g.T.Source.left c.args.whole_deck.now c.run-whole.new.deck other w'' told') tells' c.run-whole.result.status c.run-whole.ensures.due in
    let q = call.2.runs (inl zero') in
    let all = halves.whole_text (run_of q.0) c.run-whole.result.status call.0 (call.2.prints q.0 q.1) zero' in
    let same = halves.one_session bytes other h.p q.0 differ h.deck (prepared_is other q.0 q.1) in
    record {
      resumed = rest.0;
      whole = call.0;
      printed = rest.1;
      printed' = call.1;
      parts = halves.printed_together made rest.2.steps all.steps s0 h.k text rest.0 call.0 rest.2.over (ap (λ (x : Session). halves.lives all.steps x) (sym same) ∙ all.over) h.printed rest.2.printed (all.printed ∙ ap (λ (x : Session). halves.text_of all.steps x) same);
    }

pub returns-clause-accepted : goal.returns-clause-accepted
returns-clause-accepted g c = λ before text w w' took took' given few three two.
    let one = device_of g.B.Backing.holds g.B.Backing.size g.B.Backing.faults c.args.backing.now c.run-halted.new.backing in
    let next = device_of g.B.Backing.holds g.B.Backing.size g.B.Backing.faults c.run-halted.new.backing c.run-resumed.new.backing in
    let back = read_back c.args.words.now g.S.Source.left g.S.Source.faults c.args.deck.now c.run-halted.new.deck one c.run-halted.result.machine g.K.Sink.taken g.K.Sink.faults c.args.printer.now c.run-halted.new.printer w before text took took' few
    (subst (λ (n : ℕ). StatusMeans c.args.words.now g.S.Source.left g.S.Source.faults c.args.deck.now c.run-halted.new.deck one c.run-halted.result.machine g.K.Sink.taken g.K.Sink.faults c.args.printer.now c.run-halted.new.printer n) three c.run-halted.ensures.status)
    c.run-halted.ensures.opened c.outcome_is_typed.ensures c.tasks_are_few.ensures in
    not_refused c.args.resume_words.now g.I.Source.left g.I.Source.faults c.args.image.now c.run-resumed.new.deck next c.run-resumed.result.machine g.L.Sink.taken g.L.Sink.faults c.args.resume_printer.now c.run-resumed.new.printer
    w' text given few c.run-halted.result.machine back
    (subst (λ (n : ℕ). StatusMeans c.args.resume_words.now g.I.Source.left g.I.Source.faults c.args.image.now c.run-resumed.new.deck next c.run-resumed.result.machine g.L.Sink.taken g.L.Sink.faults c.args.resume_printer.now c.run-resumed.new.printer n) two c.run-resumed.ensures.status)

pub returns-clause-begins : goal.returns-clause-begins
returns-clause-begins g c = λ bytes other before text w w' w'' told told' differ took took' given tells tells' three zero.
    let one = device_of g.B.Backing.holds g.B.Backing.size g.B.Backing.faults c.args.backing.now c.run-halted.new.backing in
    let two = device_of g.B.Backing.holds g.B.Backing.size g.B.Backing.faults c.run-halted.new.backing c.run-resumed.new.backing in
    let means = subst (λ (n : ℕ). StatusMeans c.args.words.now g.S.Source.left g.S.Source.faults c.args.deck.now c.run-halted.new.deck one c.run-halted.result.machine g.K.Sink.taken g.K.Sink.faults c.args.printer.now c.run-halted.new.printer n) three c.run-halted.ensures.status in
    let h = halves.halted_run c.args.words.now g.S.Source.left g.S.Source.faults c.args.deck.now c.run-halted.new.deck one c.run-halted.result.machine g.K.Sink.taken g.K.Sink.faults c.args.printer.now c.run-halted.new.printer bytes before text w told tells took took' means in
    let names = halves.names_of c.args.words.now g.S.Source.left g.S.Source.faults c.args.deck.now c.run-halted.new.deck one c.run-halted.result.machine g.K.Sink.taken g.K.Sink.faults c.args.printer.now c.run-halted.new.printer bytes before text w told tells took took' h (c.run-halted.ensures.opened h.k h.is) in
    let typed = c.outcome_is_typed.ensures h.k h.is in
    let s0 : Session = (run_of h.p).session in
    let made : ℕ = h.k.tasks.made in
    let s : Session = after made s0 in
    let stands = subst (λ (t : Option (List (List ℕ))). StandsAt t h.k s) (halves.known_is (g.B.Backing.holds c.args.backing.now) (g.B.Backing.holds c.run-halted.new.backing) tells) h.stands in
    let still = tells_on g.B.Backing.holds g.B.Backing.size g.B.Backing.calls g.B.Backing.faults c.args.backing.now c.run-halted.new.backing c.run-halted.ensures.device tells in
    let rested = begins.rest_printed c.args.resume_words.now g.I.Source.left g.I.Source.faults c.args.image.now c.run-resumed.new.deck two c.run-resumed.result.machine g.L.Sink.taken g.L.Sink.faults c.args.resume_printer.now c.run-resumed.new.printer
    w' still s h.k stands text given c.parts_tell_sessions.ensures
    (λ card p few is. parts_are (lines made s0) made h.k _ card p (subst (λ (t : List ℕ). halves.IsShort t) h.printed few) typed names (ap (told_in _) (sym h.printed) ∙ is)) c.run-resumed.result.status c.run-resumed.ensures.due in
    let j = judgement other in
    let call = call_prints g.M.Sink.taken g.M.Sink.faults c.args.whole_printer.now c.run-whole.new.printer j None (asks_run c.args.whole_words.now g.T.Source.left c.args.whole_deck.now c.run-whole.new.deck other w'' told') tells' c.run-whole.result.status c.run-whole.ensures.due in
    let q = call.2.runs (inl zero) in
    let all = halves.whole_text (run_of q.0) c.run-whole.result.status call.0 (call.2.prints q.0 q.1) zero in
    let same = halves.one_session bytes other h.p q.0 differ h.deck (prepared_is other q.0 q.1) in
    begins.resume_begins g.L.Sink.taken c.args.resume_printer.now c.run-resumed.new.printer g.M.Sink.taken c.args.whole_printer.now c.run-whole.new.printer made all.steps s0 h.k text rested.0 call.0
    (ap (λ (x : Session). halves.lives all.steps x) (sym same) ∙ all.over) h.printed (all.printed ∙ ap (λ (x : Session). halves.text_of all.steps x) same) rested.2 rested.1 call.1

pub returns-clause-ends_too : goal.returns-clause-ends_too
returns-clause-ends_too g c = λ bytes other before text core less w w' w'' le small told told' differ took took' given few tells tells' read calm worked three zero.
    let wi = rest.is_image core c.args.words.now w in
    let one = device_of g.B.Backing.holds g.B.Backing.size g.B.Backing.faults c.args.backing.now c.run-halted.new.backing in
    let two = device_of g.B.Backing.holds g.B.Backing.size g.B.Backing.faults c.run-halted.new.backing c.run-resumed.new.backing in
    let last = device_of g.C.Backing.holds g.C.Backing.size g.C.Backing.faults c.args.whole_backing.now c.run-whole.new.backing in
    let means = subst (λ (n : ℕ). StatusMeans c.args.words.now g.S.Source.left g.S.Source.faults c.args.deck.now c.run-halted.new.deck one c.run-halted.result.machine g.K.Sink.taken g.K.Sink.faults c.args.printer.now c.run-halted.new.printer n) three c.run-halted.ensures.status in
    let h = halves.halted_run c.args.words.now g.S.Source.left g.S.Source.faults c.args.deck.now c.run-halted.new.deck one c.run-halted.result.machine g.K.Sink.taken g.K.Sink.faults c.args.printer.now c.run-halted.new.printer bytes before text wi told tells took took' means in
    let opened = c.run-halted.ensures.opened h.k h.is in
    let names = halves.names_of c.args.words.now g.S.Source.left g.S.Source.faults c.args.deck.now c.run-halted.new.deck one c.run-halted.result.machine g.K.Sink.taken g.K.Sink.faults c.args.printer.now c.run-halted.new.printer bytes before text wi told tells took took' h opened in
    let typed = c.outcome_is_typed.ensures h.k h.is in
    let size = rest.core_of c.args.words.now g.S.Source.left g.S.Source.faults c.args.deck.now c.run-halted.new.deck one h.k core (omega (arith, small)) w opened in
    let s0 : Session = (run_of h.p).session in
    let made : ℕ = h.k.tasks.made in
    let s : Session = after made s0 in
    let stands = subst (λ (t : Option (List (List ℕ))). StandsAt t h.k s) (halves.known_is (g.B.Backing.holds c.args.backing.now) (g.B.Backing.holds c.run-halted.new.backing) tells) h.stands in
    let still = tells_on g.B.Backing.holds g.B.Backing.size g.B.Backing.calls g.B.Backing.faults c.args.backing.now c.run-halted.new.backing c.run-halted.ensures.device tells in
    let j = judgement other in
    let asks = asks_run c.args.whole_words.now g.T.Source.left c.args.whole_deck.now c.run-whole.new.deck other (is_run less c.args.whole_words.now w'') told' in
    let run = whole_run tells' j None c.run-whole.result.status asks (inl zero) c.run-whole.ensures.due in
    let judged = asks.judged run.core run.p run.its_run in
    let in_core = run_opens c.args.whole_words.now g.T.Source.left c.args.whole_deck.now c.run-whole.new.deck less (omega (arith, le, small)) w'' run.core run.p run.its_run in
    let opens = subst (λ (n : ℕ). WasOpened last n run.p run.k) in_core run.opens in
    let call = call_prints g.M.Sink.taken g.M.Sink.faults c.args.whole_printer.now c.run-whole.new.printer j None asks tells' c.run-whole.result.status c.run-whole.ensures.due in
    let over = rest.over_made run.p c.run-whole.result.status call.0 run.k.tasks.made (call.2.prints run.p judged) zero run.last in
    let same = halves.one_session bytes other h.p run.p differ h.deck (prepared_is other run.p judged) in
    let never = rest.never last tells' core less run.p run.k opens over le made s (ap (after made) (sym same)) in
    let mono = c.run-halted.ensures.device.faults in
    rest.rest_ends c.args.resume_words.now g.I.Source.left g.I.Source.faults c.args.image.now c.run-resumed.new.deck two c.run-resumed.result.machine g.L.Sink.taken g.L.Sink.faults c.args.resume_printer.now c.run-resumed.new.printer
    w' still s h.k stands text given c.parts_tell_sessions.ensures
    (λ card p few is. parts_are (lines made s0) made h.k _ card p (subst (λ (t : List ℕ). halves.IsShort t) h.printed few) typed names (ap (told_in _) (sym h.printed) ∙ is))
    read calm (omega (arith, worked, mono)) core size never c.run-resumed.result.status
    (returns-clause-accepted g c before text wi w' took took' given few three)
    c.run-resumed.ensures.due

pub returns-clause-calls : goal.returns-clause-calls
returns-clause-calls g c = (c.run-halted.new.backing, (c.run-halted.result.machine, c.run-halted.ensures.due), (c.run-resumed.result.machine, c.run-resumed.ensures.due))

pub returns-clause-whole_call : goal.returns-clause-whole_call
returns-clause-whole_call g c = (c.run-whole.result.machine, c.run-whole.ensures.due)
