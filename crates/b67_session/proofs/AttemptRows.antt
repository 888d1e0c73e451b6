-- An attempt by what its calls answered: the first try, what is brought in after it, and the tries that follow.
use Rattle.std.proofs.Common.{◌≡◌, ◌≢◌, ◌∙◌, ⊎_elim, inl, inr, ℕ, List, length, Option, Some, None, Result, Ok, Err, refl, ap, subst}
use Rattle.b67_word.specs.declared.faults.Ending.{Ending}
use Rattle.b67_model.specs.Common.{Ready, Task, SessionJob, Session}
use Rattle.b67_layout.specs.Common.{IsInOrderButCounts, Placement, IsRunning}
use Rattle.b67_stack.specs.declared.What.{What}
use Rattle.b67_stack.specs.Common.{Storage}
use Rattle.b67_layout.specs.Machine.{content_after}
use Rattle.b67_exec_cells.specs.Running.{code_area}
use Rattle.b67_task.specs.declared.tables.TaskState.{TaskState}
use Rattle.b67_task.specs.declared.tables.Machine.{Machine}
use Rattle.b67_task.specs.declared.tables.Tasks.{Tasks}
use Rattle.b67_mcp.specs.Called.{CallsDevice}
use Rattle.b67_mcp.specs.declared.ends.Stop.{Stop}
use Rattle.b67_mcp.specs.declared.ends.Stop.TheVariants as stops
use Rattle.b67_presence.specs.Bringing.{StandsOver, IsWanted, WantsSome, Brings, BringsInPlace}
use Rattle.b67_session.specs.declared.tries.Tried.{Tried}
use Rattle.b67_session.specs.declared.tries.Tried.TheVariants as tries
use Rattle.b67_session.specs.Makes.{ForEachReady}
use Rattle.b67_session.specs.Tries.{IsWantedByStep, TryRow}
use Rattle.b67_session.specs.Attempts.{RunsOver, ForEachOver, HoleFits, TellsAfter, starts_task, makes_longer, CallKeepsAreas, UsesHole, IsCalm, Attempts, AttemptFits, EndsByRow, StandsAsBefore, AttemptRow, WithCodeRow, LastRow, TablesStay, WantsNothing}
use Rattle.b67_session.specs.Brought.{BroughtRow, BroughtIntoHole}
use Rattle.b67_session.proofs.Composed.{Told, made_once, ends_once, waits_once, still_once, stops_once, never, unchanged_over, goes_on_telling, stopped_attempt, runs_over, tables_after, room_after_stop, may_call, stop_calls, attempt_as, same_needs, still_told, other, in_order, then_on, room_after_want, code_there, wants_nothing, still_holds, held_from, held_till, not_full_as, not_full_ok, same_answer, not_full_once, tells_once, hole_for, then_nothing, no_call, keeps_areas, areas_kept, hole_wants, not_made}

-- ---- what two calls say of each session

-- a try
pub record TriedSo {B K : Type 0} (holds : B → Told) (size : B → ℕ) (taken : K → Option (List ℕ)) (answered : Result Tried Stop) (old new : Machine) (device device' : B) (paper paper' : K) : Type 0 where
  pub each : ForEachReady old (λ x told plan s m t. TryRow holds taken (size device) x told plan s m t answered old new device device' paper paper')

module _ {B K : Type 0} {holds : B → Told} {size : B → ℕ} {taken : K → Option (List ℕ)} {seen answered : Result Tried Stop} {old new : Machine} {device device' : B} {paper paper' : K} where
  pub tried_as : TriedSo holds size taken seen old new device device' paper paper' → seen ≡ answered → TriedSo holds size taken answered old new device device' paper paper'
  tried_as r is = subst (λ a. TriedSo holds size taken a old new device device' paper paper') is r

-- what it found absent is brought in
pub record BroughtSo {B : Type 0} (holds : B → Told) (size : B → ℕ) (found : What) (answered : Result (Unit {0}) Stop) (old new : Machine) (device device' : B) : Type 0 where
  pub row : (x : Storage) (plan : Placement) (s : Session) (m : SessionJob) (t : Task) (words : ℕ) → IsInOrderButCounts s → StandsOver x (holds device) old plan s → IsRunning plan s.jobs m t → IsWanted x plan m t found words
      → BroughtRow holds (length old.cpu.core) (size device) x plan s m t found words answered new device device'
  pub tells : (all : List (List ℕ)) → holds device ≡ Some all → (y : List (List ℕ)) × (holds device' ≡ Some y)
  pub many : size device' ≡ size device
  pub core : length new.cpu.core ≡ length old.cpu.core
  pub tasks : new.tasks ≡ old.tasks
  pub silent : answered ≢ Err stops.PrintFault

module _ {B : Type 0} {holds : B → Told} {size : B → ℕ} {found : What} {seen answered : Result (Unit {0}) Stop} {old new : Machine} {device device' : B} where
  pub brought_as : BroughtSo holds size found seen old new device device' → seen ≡ answered → BroughtSo holds size found answered old new device device'
  brought_as r is = subst (λ a. BroughtSo holds size found a old new device device') is r

-- what an attempt says of each session
abbrev pub Attempted : {B K : Type 0} → (B → Told) → (B → ℕ) → (K → Option (List ℕ)) → Result Tried Stop → Machine → Machine → B → B → K → K → Type 0
Attempted holds size taken answered old new device device' paper paper' =
    ForEachOver old (holds device) (λ x plan s m t. AttemptRow holds taken x (content_after x.device (holds device')) (length old.cpu.core) (size device) old.tasks.printed plan s m t answered new device device' paper paper')

-- ---- one try that found nothing absent

module _ {B K : Type 0} (holds : B → Told) (size : B → ℕ) (taken : K → Option (List ℕ)) (device device' : B) (x : Storage) (plan : Placement) (s : Session) (m : SessionJob) (t : Task) (o : IsInOrderButCounts s) (runs : IsRunning plan s.jobs m t) (old new : Machine) (h : StandsOver x (holds device) old plan s) (paper paper' : K) where
  abbrev Try : Result Tried Stop → Type 0
  Try answered = TryRow holds taken (size device) x x.device plan s m t answered old new device device' paper paper'

  abbrev Whole : Result Tried Stop → Type 0
  Whole answered = AttemptRow holds taken x (content_after x.device (holds device')) (length old.cpu.core) (size device) old.tasks.printed plan s m t answered new device device' paper paper'

  pub made_row : Try (Ok tries.Made) → Whole (Ok tries.Made)
  made_row tried = record {
    meets = made_once holds taken device device' x (size device) plan s m t o runs old new h paper paper' (tried.row h.says);
    fits = λ tells. tried.fits;
    quiet = λ nothing same. tried.quiet (λ w. same (may_call x plan m t w));
    hole = λ exact fits none. record { written = still_holds holds device device' (tried.quiet (λ w. none (may_call x plan m t w))); not_full = not_full_ok tries.Made };
    areas = λ nothing e. keeps_areas taken x (content_after x.device (holds device')) old.tasks.printed plan s m t new paper paper' (tried.row h.says);
    outcome = λ nothing. tt;
    still = λ nothing. tt;
    sum = λ nothing sum size e. absurd (let b : ⊥ = cc in b);
  }

  -- nothing has changed, as its task is to end or to wait
  unmoved_row : (tried : Tried) → Attempts taken x (content_after x.device (holds device')) (length old.cpu.core) (size device) old.tasks.printed plan s t (Ok tried) new paper paper' → AttemptFits (length old.cpu.core) x plan s m t (Ok tried) → tried ≢ tries.Made
      → device' ≡ device → EndsByRow plan m t (Ok tried) → StandsAsBefore x (content_after x.device (holds device')) plan s (Ok tried) new → Whole (Ok tried)
  unmoved_row tried meets fits other quiet outcome still = record {
    meets = meets;
    fits = λ tells. fits;
    quiet = λ nothing same. quiet;
    hole = λ exact fits none. record { written = still_holds holds device device' quiet; not_full = not_full_ok tried };
    areas = λ nothing e. absurd (other (same_answer tried tries.Made e));
    outcome = λ nothing. outcome;
    still = λ nothing. still;
    sum = λ nothing sum many e. absurd (not_full_ok tried sum many e);
  }

  ends_row : (ending : Ending) → Try (Ok (tries.Ends ending)) → device' ≡ device → Whole (Ok (tries.Ends ending))
  ends_row ending tried quiet = unmoved_row (tries.Ends ending) (ends_once holds taken device device' x (size device) plan s m t o runs old new h paper paper' ending quiet (tried.row h.says)) tried.fits (λ e. absurd cc) quiet (tried.row h.says).0
      (still_once holds taken device device' x (size device) plan s m t o runs old new h paper paper' quiet (tried.row h.says).1)

  waits_row : (state : TaskState) → Try (Ok (tries.Waits state)) → device' ≡ device → Whole (Ok (tries.Waits state))
  waits_row state tried quiet = unmoved_row (tries.Waits state) (waits_once holds taken device device' x (size device) plan s m t o runs old new h paper paper' state quiet (tried.row h.says)) tried.fits (λ e. absurd cc) quiet (tried.row h.says).0
      (still_once holds taken device device' x (size device) plan s m t o runs old new h paper paper' quiet (tried.row h.says).1)

  stops_row : (stop : Stop) → Try (Err stop) → Whole (Err stop)
  stops_row stop tried = record {
    meets = stops_once holds taken device device' x (size device) plan s m t o runs old new h paper paper' stop tried.quiet tried.fits (tried.row h.says);
    fits = λ tells. room_after_stop (length old.cpu.core) x plan s m t stop tried.fits;
    quiet = λ nothing same. tried.quiet (λ w. same (stop_calls x plan m t stop w));
    hole = λ exact fits none. record {
      written = still_holds holds device device' (tried.quiet (λ w. none (stop_calls x plan m t stop w)));
      not_full = not_full_once taken (content_after x.device (holds device')) (size device) x plan s m t old new paper paper' stop (tried.row h.says) none;
    };
    areas = λ nothing e. absurd (let b : ⊥ = cc in b);
    outcome = λ nothing. tt;
    still = λ nothing. tt;
    sum = λ nothing sum many e. tells_once taken (content_after x.device (holds device')) (size device) x plan s m t old new paper paper' stop sum many (tried.row h.says) (let is : stop ≡ stops.BackingFull sum many = cc in is);
  }

module _ {B K : Type 0} {holds : B → Told} {size : B → ℕ} {taken : K → Option (List ℕ)} {old new : Machine} {device device' : B} {paper paper' : K} where
  pub made_each : TriedSo holds size taken (Ok tries.Made) old new device device' paper paper'
      → Attempted holds size taken (Ok tries.Made) old new device device' paper paper'
  made_each r = λ x plan s m t o h runs ready. made_row holds size taken device device' x plan s m t o runs old new h paper paper' (r.each x x.device plan s m t o h.stands runs ready)

  pub ends_each : (ending : Ending) → TriedSo holds size taken (Ok (tries.Ends ending)) old new device device' paper paper'
      → Attempted holds size taken (Ok (tries.Ends ending)) old new device device' paper paper'
  ends_each ending r = λ x plan s m t o h runs ready.
      let tried : TryRow holds taken (size device) x x.device plan s m t (Ok (tries.Ends ending)) old new device device' paper paper' = r.each x x.device plan s m t o h.stands runs ready in
      ends_row holds size taken device device' x plan s m t o runs old new h paper paper' ending tried (tried.quiet (λ w. w))

  pub waits_each : (state : TaskState) → TriedSo holds size taken (Ok (tries.Waits state)) old new device device' paper paper'
      → Attempted holds size taken (Ok (tries.Waits state)) old new device device' paper paper'
  waits_each state r = λ x plan s m t o h runs ready.
      let tried : TryRow holds taken (size device) x x.device plan s m t (Ok (tries.Waits state)) old new device device' paper paper' = r.each x x.device plan s m t o h.stands runs ready in
      waits_row holds size taken device device' x plan s m t o runs old new h paper paper' state tried (tried.quiet (λ w. w))

  pub stops_each : (stop : Stop) → TriedSo holds size taken (Err stop) old new device device' paper paper'
      → Attempted holds size taken (Err stop) old new device device' paper paper'
  stops_each stop r = λ x plan s m t o h runs ready. stops_row holds size taken device device' x plan s m t o runs old new h paper paper' stop (r.each x x.device plan s m t o h.stands runs ready)

  pub tables_each : (answered : Result Tried Stop) → RunsOver old (holds device) → TriedSo holds size taken answered old new device device' paper paper' → TablesStay answered old.tasks new.tasks
  tables_each answered r tried =
      tables_after taken (content_after r.storage.device (holds device')) (size device) r.storage r.plan r.session r.member r.task old new paper paper' answered
      ((tried.each r.storage r.storage.device r.plan r.session r.member r.task r.ordered r.stands.stands r.running r.ready).row r.stands.says)

-- ---- the same of an attempt whose segment is present

tells_calls : (s : Session) (m : SessionJob) (t : Task) (sum : ℕ) → TellsAfter s m t sum → CallsDevice m t
tells_calls s m t sum (starts_task h e) = inr h
tells_calls s m t sum (makes_longer l e) = inl l

pub coded : {D K : Type 0} {holds : D → Told} {taken : K → Option (List ℕ)} {x : Storage} {told : Told} {core count before : ℕ} {plan : Placement} {s : Session} {m : SessionJob} {t : Task} {answered : Result Tried Stop} {new : Machine} {device device' : D} {paper paper' : K}
    → AttemptRow holds taken x told core count before plan s m t answered new device device' paper paper' → WithCodeRow taken x told core count before plan s m t answered new device device' paper paper'
coded {s = s} {m = m} {t = t} a = record {
  meets = λ code. a.meets;
  fits = λ code. a.fits;
  calm = λ nothing none. record { same = a.quiet nothing none; not_full = λ sum size e. none (tells_calls s m t sum (a.sum nothing sum size e)) };
  areas = λ nothing. a.areas (inl nothing);
}

-- ---- something was absent

pub record FoundAbsent {B K : Type 0} (holds : B → Told) (x : Storage) (plan : Placement) (s : Session) (m : SessionJob) (t : Task) (found : What) (old there : Machine) (device mid : B) (paper first : K) : Type 0 where
  pub ordered : IsInOrderButCounts s
  pub running : IsRunning plan s.jobs m t
  pub ready : t.condition ≡ Ready
  pub words : ℕ
  pub wanted : IsWanted x plan m t found words
  pub touched : IsWantedByStep plan m t found words
  pub stands : StandsOver x (holds mid) there plan s
  pub there_is : there ≡ old
  pub same : mid ≡ device
  pub paper_is : first ≡ paper
  pub some : WantsNothing x plan m t → ⊥

module _ {B K : Type 0} {holds : B → Told} {size : B → ℕ} {taken : K → Option (List ℕ)} {found : What} {old there : Machine} {device mid : B} {paper first : K} (r : TriedSo holds size taken (Ok (tries.Absent found)) old there device mid paper first) where
  found_absent : ForEachOver old (holds device) (λ x plan s m t. FoundAbsent holds x plan s m t found old there device mid paper first)
  found_absent = λ x plan s m t o h runs ready.
      let tried : TryRow holds taken (size device) x x.device plan s m t (Ok (tries.Absent found)) old there device mid paper first = r.each x x.device plan s m t o h.stands runs ready in
      let same : mid ≡ device = tried.quiet (λ w. w) in
      let w = tried.row h.says in
      record {
        ordered = o;
        running = runs;
        ready = ready;
        words = w.0;
        wanted = w.1;
        touched = w.2;
        stands = unchanged_over x (holds device) (holds mid) plan s old there w.3 (ap holds same) h;
        there_is = w.3;
        same = same;
        paper_is = w.4;
        some = λ nothing. never taken (content_after x.device (holds mid)) (size device) x plan s m t old there paper first found nothing w;
      }

  pub wants_some : RunsOver old (holds device) → WantsSome there (holds mid) found
  wants_some o =
      let f : FoundAbsent holds o.storage o.plan o.session o.member o.task found old there device mid paper first = found_absent o.storage o.plan o.session o.member o.task o.ordered o.stands o.running o.ready in
      record { storage = o.storage; plan = o.plan; session = o.session; member = o.member; task = o.task; words = f.words; ordered = o.ordered; stands = f.stands; running = o.running; wanted = f.wanted }

-- ---- and wasn't brought in

module _ {B K : Type 0} (holds : B → Told) (size : B → ℕ) (taken : K → Option (List ℕ)) (x : Storage) (plan : Placement) (s : Session) (m : SessionJob) (t : Task) (found : What) (old there new : Machine) (device mid next : B) (paper first : K) (stop : Stop) (f : FoundAbsent holds x plan s m t found old there device mid paper first)
    (b : BroughtSo holds size found (Err stop) there new mid next) where
  refusal : BroughtRow holds (length there.cpu.core) (size mid) x plan s m t found f.words (Err stop) new mid next
  refusal = b.row x plan s m t f.words f.ordered f.stands f.running f.wanted

  core_was : length there.cpu.core ≡ length old.cpu.core
  core_was = ap (λ (z : Machine). length z.cpu.core) f.there_is

  refused_row : AttemptRow holds taken x (content_after x.device (holds next)) (length old.cpu.core) (size device) old.tasks.printed plan s m t (Err stop) new device next paper first
  refused_row = record {
    meets = attempt_as taken x (content_after x.device (holds next)) (content_after x.device (holds next)) (length there.cpu.core) (length old.cpu.core) (size mid) (size device) old.tasks.printed old.tasks.printed plan s t (Err stop) new paper first first refl core_was (ap size f.same) refl f.paper_is
        (stopped_attempt taken x (content_after x.device (holds next)) (length there.cpu.core) (size mid) old.tasks.printed plan s t stop new first (refusal.meets f.touched));
    fits = λ tells. room_after_want (length old.cpu.core) (length there.cpu.core) x plan s m t stop core_was (λ e. b.silent (ap Err e)) (refusal.fits f.touched);
    quiet = λ nothing same. absurd (f.some nothing);
    hole = λ exact fits none.
        let used = (refusal.hole (hole_for x plan s m t f.ordered f.running found f.words f.wanted f.touched fits)).used in
        record { written = held_from holds device mid next f.same used.written; not_full = not_full_as stop used.not_full };
    areas = λ nothing e. absurd (not_made stop tries.Made e);
    outcome = λ nothing. tt;
    still = λ nothing. tt;
    sum = λ nothing. absurd (f.some nothing);
  }

module _ {B K : Type 0} {holds : B → Told} {size : B → ℕ} {taken : K → Option (List ℕ)} {found : What} {old there new : Machine} {device mid next : B} {paper first : K} where
  pub refused_each : (stop : Stop) → TriedSo holds size taken (Ok (tries.Absent found)) old there device mid paper first → BroughtSo holds size found (Err stop) there new mid next → Attempted holds size taken (Err stop) old new device next paper first
  refused_each stop r b = λ x plan s m t o h runs ready. refused_row holds size taken x plan s m t found old there new device mid next paper first stop (found_absent r x plan s m t o h runs ready) b

-- ---- and was

module _ {B K : Type 0} (holds : B → Told) (size : B → ℕ) (x : Storage) (plan : Placement) (s : Session) (m : SessionJob) (t : Task) (found : What) (old there new : Machine) (device mid next : B) (paper first : K) (f : FoundAbsent holds x plan s m t found old there device mid paper first)
    (b : BroughtSo holds size found (Ok tt) there new mid next) where
  brought : BroughtRow holds (length there.cpu.core) (size mid) x plan s m t found f.words (Ok tt) new mid next
  brought = b.row x plan s m t f.words f.ordered f.stands f.running f.wanted

  brings : Brings x (holds next) new plan s m t found
  brings = brought.meets f.touched

  tells : x.device ≢ None → holds next ≢ None
  tells = goes_on_telling x.device (holds mid) (holds next) f.stands.says b.tells

  printed : new.tasks.printed ≡ old.tasks.printed
  printed = ap (λ (z : Tasks). z.printed) b.tasks ∙ ap (λ (z : Machine). z.tasks.printed) f.there_is

  core : length new.cpu.core ≡ length old.cpu.core
  core = b.core ∙ ap (λ (z : Machine). length z.cpu.core) f.there_is

  many : size next ≡ size device
  many = b.many ∙ ap size f.same

  into_hole : HoleFits x plan m t → BroughtIntoHole holds x plan s m t found (Ok tt) new mid next
  into_hole fits = brought.hole (hole_for x plan s m t f.ordered f.running found f.words f.wanted f.touched fits)

  nothing_wanted : HoleFits x plan m t → x.device ≢ None → (into : BringsInPlace x (holds next) new plan s m t found) → WantsNothing into.brings.again.storage plan (other x (holds next) new plan s m t f.ordered f.running found into.brings).member t
  nothing_wanted fits exact into = then_nothing x (holds next) new plan s m t f.ordered f.running found into.brings f.words fits f.wanted f.touched into.areas exact

  module _ (taken : K → Option (List ℕ)) (last : Machine) (final : B) (paper' : K) (answered : Result Tried Stop) where
    module _ (row : ForEachOver new (holds next) (λ y p z n u. WithCodeRow taken y (content_after y.device (holds final)) (length new.cpu.core) (size next) new.tasks.printed p z n u answered last next final first paper')) where
      -- of the session in which it is there
      then_row : (a : Brings x (holds next) new plan s m t found)
          → WithCodeRow taken a.again.storage (content_after a.again.storage.device (holds final)) (length new.cpu.core) (size next) new.tasks.printed plan (record s { jobs = a.again.jobs }) (other x (holds next) new plan s m t f.ordered f.running found a).member t answered last next final first paper'
      then_row a =
          row a.again.storage plan (record s { jobs = a.again.jobs }) (other x (holds next) new plan s m t f.ordered f.running found a).member t (in_order x (holds next) new plan s m t f.ordered f.running found a) a.again.stands
          (other x (holds next) new plan s m t f.ordered f.running found a).runs f.ready

      then_calm : HoleFits x plan m t → x.device ≢ None → (CallsDevice m t → ⊥) → (into : BringsInPlace x (holds next) new plan s m t found) → IsCalm answered next final
      then_calm fits exact none into = (then_row into.brings).calm (nothing_wanted fits exact into) (no_call x (holds next) new plan s m t f.ordered f.running found into.brings exact none)

      then_areas : HoleFits x plan m t → x.device ≢ None → answered ≡ Ok tries.Made → (into : BringsInPlace x (holds next) new plan s m t found) → CallKeepsAreas taken x (content_after x.device (holds final)) old.tasks.printed plan s m t last paper paper'
      then_areas fits exact made into =
          areas_kept taken x (holds next) (holds final) new last old.tasks.printed new.tasks.printed plan s m t f.ordered f.running found into.brings exact tells paper first paper' f.paper_is printed into.areas (hole_wants x plan m t fits)
          ((then_row into.brings).areas (nothing_wanted fits exact into) made)

      then_hole : UsesHole {A = Unit {0}} holds (Ok tt) mid next → IsCalm answered next final → UsesHole holds answered device final
      then_hole used calm = record { written = held_till holds device next final calm.same (held_from holds device mid next f.same used.written); not_full = calm.not_full }

      then_attempt : AttemptRow holds taken x (content_after x.device (holds final)) (length old.cpu.core) (size device) old.tasks.printed plan s m t answered last device final paper paper'
      then_attempt = record {
        meets = then_on taken x (holds next) (holds final) new last (length old.cpu.core) (size device) old.tasks.printed plan s m t f.ordered f.running found brings f.ready tells answered paper first paper' f.paper_is printed (length new.cpu.core) (size next) core many
            (λ y p n u. code_area y p n u ≢ None) (code_there x (holds next) new plan s m t f.ordered f.running found brings)
            (λ y p z n u order stands runs ready premise. (row y p z n u order stands runs ready).meets premise);
        fits = λ exact. same_needs x (holds next) new plan s m t f.ordered f.running found brings exact tells (length new.cpu.core) (length old.cpu.core) answered core
            ((then_row brings).fits (code_there x (holds next) new plan s m t f.ordered f.running found brings) (still_told x (holds next) new plan s m t f.ordered f.running found brings exact tells));
        quiet = λ nothing same. absurd (f.some nothing);
        hole = λ exact fits none. then_hole (into_hole fits).used (then_calm fits exact none (into_hole fits).in_place);
        areas = λ hand made. ⊎_elim (λ (nothing : WantsNothing x plan m t). absurd (f.some nothing)) (λ (fits : (x.device ≢ None) × HoleFits x plan m t). then_areas fits.1 fits.0 made (into_hole fits.1).in_place) hand;
        outcome = λ nothing. absurd (f.some nothing);
        still = λ nothing. absurd (f.some nothing);
        sum = λ nothing. absurd (f.some nothing);
      }

    module _ (row : ForEachOver new (holds next) (λ y p z n u. LastRow taken y (content_after y.device (holds final)) (length new.cpu.core) (size next) new.tasks.printed p z n u answered last next final first paper')) where
      -- nothing is wanted then
      nothing_last : code_area x plan m t ≢ None → brings.again.storage.device ≢ None → WantsNothing brings.again.storage plan (other x (holds next) new plan s m t f.ordered f.running found brings).member t
      nothing_last code = wants_nothing x (holds next) new plan s m t f.ordered f.running found brings f.words code f.wanted f.touched

      last_row : LastRow taken brings.again.storage (content_after brings.again.storage.device (holds final)) (length new.cpu.core) (size next) new.tasks.printed plan (record s { jobs = brings.again.jobs }) (other x (holds next) new plan s m t f.ordered f.running found brings).member t answered last next final first paper'
      last_row =
          row brings.again.storage plan (record s { jobs = brings.again.jobs }) (other x (holds next) new plan s m t f.ordered f.running found brings).member t (in_order x (holds next) new plan s m t f.ordered f.running found brings) brings.again.stands
          (other x (holds next) new plan s m t f.ordered f.running found brings).runs f.ready

      then_coded : WithCodeRow taken x (content_after x.device (holds final)) (length old.cpu.core) (size device) old.tasks.printed plan s m t answered last device final paper paper'
      then_coded = record {
        meets = λ code. then_on taken x (holds next) (holds final) new last (length old.cpu.core) (size device) old.tasks.printed plan s m t f.ordered f.running found brings f.ready tells answered paper first paper' f.paper_is printed (length new.cpu.core) (size next) core many
            (λ y p n u. y.device ≢ None → WantsNothing y p n u) (nothing_last code)
            (λ y p z n u order stands runs ready premise. (row y p z n u order stands runs ready).meets premise);
        fits = λ code exact. same_needs x (holds next) new plan s m t f.ordered f.running found brings exact tells (length new.cpu.core) (length old.cpu.core) answered core
            (last_row.fits (nothing_last code (still_told x (holds next) new plan s m t f.ordered f.running found brings exact tells)));
        calm = λ nothing. absurd (f.some nothing);
        areas = λ nothing. absurd (f.some nothing);
      }

module _ {B K : Type 0} {holds : B → Told} {size : B → ℕ} {taken : K → Option (List ℕ)} {found : What} {old there new : Machine} {device mid next : B} {paper first : K} (r : TriedSo holds size taken (Ok (tries.Absent found)) old there device mid paper first) (b : BroughtSo holds size found (Ok tt) there new mid next) where
  pub runs_on : RunsOver old (holds device) → RunsOver new (holds next)
  runs_on o =
      let f : FoundAbsent holds o.storage o.plan o.session o.member o.task found old there device mid paper first = found_absent r o.storage o.plan o.session o.member o.task o.ordered o.stands o.running o.ready in
      runs_over o.storage (holds next) new o.plan o.session o.member o.task o.ordered o.running found (brings holds size o.storage o.plan o.session o.member o.task found old there new device mid next paper first f b) o.ready

  pub attempt_each : (last : Machine) (final : B) (paper' : K) (answered : Result Tried Stop)
      → ForEachOver new (holds next) (λ y p z n u. WithCodeRow taken y (content_after y.device (holds final)) (length new.cpu.core) (size next) new.tasks.printed p z n u answered last next final first paper')
      → Attempted holds size taken answered old last device final paper paper'
  attempt_each last final paper' answered row = λ x plan s m t o h runs ready.
      then_attempt holds size x plan s m t found old there new device mid next paper first (found_absent r x plan s m t o h runs ready) b taken last final paper' answered row

  pub coded_each : (last : Machine) (final : B) (paper' : K) (answered : Result Tried Stop)
      → ForEachOver new (holds next) (λ y p z n u. LastRow taken y (content_after y.device (holds final)) (length new.cpu.core) (size next) new.tasks.printed p z n u answered last next final first paper')
      → ForEachOver old (holds device) (λ x plan s m t. WithCodeRow taken x (content_after x.device (holds final)) (length old.cpu.core) (size device) old.tasks.printed plan s m t answered last device final paper paper')
  coded_each last final paper' answered row = λ x plan s m t o h runs ready.
      then_coded holds size x plan s m t found old there new device mid next paper first (found_absent r x plan s m t o h runs ready) b taken last final paper' answered row
