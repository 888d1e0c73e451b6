-- The rest of a run that halted ends if the whole run does.
use Rattle.std.proofs.Common.{◌≡◌, ◌≤◌, ◌<◌, ◌+◌, ◌^◌, ◌⊎◌, ⊎_elim, inl, inr, ℕ, Bool, List, [], ◌∷◌, length, refl, sym, ap, subst, ◌∙◌, arith, cond, codes, decimal, Option, Some, None, Ok}
use Rattle.std.specs.Prelude.{take}
use Rattle.std.specs.Option.{option_map, option_or}
use Rattle.std.proofs.lemmas.Bool.{cases_lt}
use Rattle.std.proofs.lemmas.Option.{same_Some, none-some}
use denote.Ref.{Bor}
use Rattle.b67_io.specs.Causes.{Stayed}
use Rattle.b67_model.specs.Common.{need, need_next, Session, after, live_tasks}
use Rattle.b67_model_text.specs.Command.{number_in}
use Rattle.b67_job.specs.Runs.{StandsAt}
use Rattle.b67_session_lines.specs.Stops.{live_after}
use Rattle.b67_session_lines.proofs.Statuses.{after-add}
use Rattle.b67_task.specs.declared.tables.Machine.{Machine}
use Rattle.b67_job.specs.Admitting.{Prepared}
use Rattle.b67_image.specs.Text.{limit}
use Rattle.b67_image.specs.Parts.{ImageParts, parts_of}
use Rattle.b67_image.specs.Meaning.{told_in, IsMeant}
use Rattle.b67_image.specs.Laws.{PartsTellSessions}
use Rattle.b67_job.specs.Command.{Request, is_path, request, requested, exercise, bind, one_word, command_line_of}
use Rattle.b67_job.specs.declared.command.CommandLine.{CommandLine}
use Rattle.b67_job.specs.declared.command.CommandLine.TheVariants as commands
use Rattle.b67_job.specs.declared.summaries.Closing.TheVariants as closings
use Rattle.b67_job.specs.Device.{Device, DeviceTells, Worked, knowing}
use Rattle.b67_job.specs.Texts.{Text, all_taken, cut_short}
use Rattle.b67_job.specs.Runs.{run_of, WantsCore, WasOpened, StopsOpened, all_end, halt_comes, step_wants_core, step_wants_sectors, step_fails, StepsEnd, steps_stop, next_is_cut}
use Rattle.b67_job.specs.Going.{run_from}
use Rattle.b67_job.specs.Judgement.{core_asked}
use Rattle.b67_job.specs.Due.{IsOpenedOrResumed, IsDue, usage_due, refusal_due, print_due, image_due, dump_due, run_due, reading_due, memory_due, Answered, answered, cut_in_step, goes_on}
use Rattle.b67_promises.specs.Paging.{texts, EndsToo, as_well, no_command, sectors_wanted, memory_wanted}
use Rattle.b67_promises.specs.Halts.{AsksForImage, AsksForImageIn, AsksForResume}
use Rattle.b67_promises.proofs.Calls.{Printed}
use Rattle.b67_promises.proofs.Cores.{number_is}
use Rattle.b67_promises.proofs.Halves.{resume_words, image_not_run, image_not_exercise, image_not_one, image_not_bind, stands_again, told_short, says_self}
use Rattle.b67_promises.proofs.MoreCore.{need_more, next_need, not_over}
use Rattle.b67_promises.proofs.Steps.{over_after}
use Rattle.b67_promises.proofs.Words.{head, tail, no_word}
use Rattle.b67_model.specs.declared.limits.TheConstants.{LEAST_CORE, MOST_CORE}

-- ---- the core that the words of an image name

by_requested : (command : CommandLine) (n : ℕ) (path : List ℕ) (b : Bool) (o : Option ℕ) → ((k : ℕ) → o ≡ Some k → k ≡ n) → (r : Option Request) → r ≡ cond b (option_map (λ (k : ℕ). record { core = k; path = path }) o) None
    → (x : Option CommandLine) → x ≡ None → option_or (option_map (λ (r : Request). commands.Image r.core) r) x ≡ Some command → command ≡ commands.Image n
by_requested command n path b o is r e x none h = grind arith

request_is : (word a b c d : Bor (List ℕ)) → word.now ≡ codes "image" → a.now ≡ codes "--core" → c.now ≡ codes "--backing"
    → request (codes "image") (word ∷ a ∷ b ∷ c ∷ d ∷ []) ≡ requested (record { core = b.now; path = d.now })
request_is word a b c d e f g = rw e (rw f (rw g refl))

image_in : (n : ℕ) → n < 2 ^ 64 → (words : List (Bor (List ℕ))) → AsksForImageIn n words → (command : CommandLine) → command_line_of words ≡ Some command → command ≡ commands.Image n
image_in n small [] w command h = absurd (none-some command h)
image_in n small (word ∷ []) w command h = absurd (no_word command (one_word (word ∷ [])) (bind (word ∷ [])) (image_not_one word (ap head w)) (image_not_bind word [] (ap head w)) h)
image_in n small (word ∷ a ∷ []) w command h = absurd (none-some command (sym (image_not_bind word (a ∷ []) (ap head w)) ∙ h))
image_in n small (word ∷ a ∷ b ∷ []) w command h = grind arith
image_in n small (word ∷ a ∷ b ∷ c ∷ []) w command h = absurd (none-some command (sym (image_not_bind word (a ∷ b ∷ c ∷ []) (ap head w)) ∙ h))
image_in n small (word ∷ a ∷ b ∷ c ∷ d ∷ []) w command h =
    let ws = word ∷ a ∷ b ∷ c ∷ d ∷ [] in
    let e = ap head w in
    let number : b.now ≡ decimal n = ap (λ (xs : List (List ℕ)). head (tail (tail xs))) w in
    let is = request_is word a b c d e (ap (λ (xs : List (List ℕ)). head (tail xs)) w) (ap (λ (xs : List (List ℕ)). head (tail (tail (tail xs)))) w) in
    let none : option_or (exercise ws) (bind ws) ≡ None = ap (λ (o : Option CommandLine). option_or o (bind ws)) (image_not_exercise word a b c d e) ∙ image_not_bind word (a ∷ b ∷ c ∷ d ∷ []) e in
    by_requested command n d.now (is_path d.now) (number_in LEAST_CORE MOST_CORE b.now) (λ k e. number_is LEAST_CORE MOST_CORE k n small (sym (ap (number_in LEAST_CORE MOST_CORE) number) ∙ e))
    (request (codes "image") ws) is (option_or (exercise ws) (bind ws)) none
    (sym (ap (λ (o : Option Request). option_or (option_map (λ (r : Request). commands.Run r.core) o) (option_or (option_map (λ (r : Request). commands.Image r.core) (request (codes "image") ws)) (option_or (exercise ws) (bind ws)))) (image_not_run word a b c d e)) ∙ h)
image_in n small (word ∷ a ∷ b ∷ c ∷ d ∷ x ∷ more) w command h = absurd (none-some command (sym (image_not_bind word (a ∷ b ∷ c ∷ d ∷ x ∷ more) (ap head w)) ∙ h))

pub is_image : (n : ℕ) (words : List (Bor (List ℕ))) → AsksForImageIn n words → AsksForImage words
is_image n words w = first_of (texts words) w
  where
    first_of : (xs : List (List ℕ)) → take 4 xs ≡ codes "image" ∷ codes "--core" ∷ decimal n ∷ codes "--backing" ∷ [] → take 1 xs ≡ codes "image" ∷ []
    first_of [] e = ap (λ (ys : List (List ℕ)). take 1 ys) e
    first_of (x ∷ xs) e = ap (λ (ys : List (List ℕ)). take 1 ys) e

not_image : (core : ℕ) → commands.Resume ≡ commands.Image core → ⊥
not_image core e = cc

-- the machine that it left has that core
pub core_of : {S B : Type 0} (words : List (Bor (List ℕ))) (left : S → Option (List ℕ)) (source_faults : S → ℕ) (deck deck' : S) (d : Device B) (k : Machine) (n : ℕ) → n < 2 ^ 64 → AsksForImageIn n words
    → IsOpenedOrResumed words left source_faults deck deck' d k → length k.cpu.core ≡ n
core_of words left source_faults deck deck' d k n small w (inl o) =
    let command = image_in n small words w o.2.command o.2.is in
    o.3.core_size ∙ same_Some o.0 n (sym o.2.opens ∙ ap core_asked command)
core_of words left source_faults deck deck' d k n small w (inr r) =
    let c = image_in n small words w commands.Resume r.of.is in
    absurd (not_image n c)

-- ---- where the whole run ended, no task lives

pub over_made : (p : Prepared) (status : ℕ) (text : List ℕ) (made : ℕ) → Printed (run_of p) None status text → status ≡ 0 → (live_after made (run_of p).session ≡ 0) ⊎ ((run_of p).halt ≡ Some made) → live_after made (run_of p).session ≡ 0
over_made p status text made printed h e = grind (arith, over_after)

-- ---- no step of the rest needs more core than the whole run had

module _ {B C : Type 0} (d : Device C) (tells : DeviceTells d) (core less : ℕ) (p : Prepared) (k : Machine) (opens : WasOpened d less p k) (over : live_after k.tasks.made (run_of p).session ≡ 0) (le : less ≤ core)
    (made : ℕ) (s : Session) (is : s ≡ after made (run_of p).session) where
  pub never : (e : Device B) → DeviceTells e → (steps : ℕ) (m : Machine) (text : Text) → WantsCore e core steps (run_from s) m text → ⊥
  never e tells' steps m text w =
      let first = (run_of p).session in
      let j = made + steps in
      let same : w.stop.session ≡ after j first = w.stop.comes.session tells' ∙ ap (after steps) is ∙ sym (after-add made steps first) in
      let lives : live_after j first ≡ 0 → ⊥ = λ dead. not_over w.stop.session w.stop.member w.stop.task w.stop.next (subst (λ (z : Session). live_tasks z.jobs ≡ 0) (sym same) dead) in
      let below : j < k.tasks.made =
      ⊎_elim (λ (below : j < k.tasks.made). below)
      (λ (high : k.tasks.made ≤ j). absurd (lives (ap (λ (z : Session). live_tasks z.jobs) (over_after k.tasks.made j first over high) ∙ over))) (cases_lt j k.tasks.made) in
      let f = opens.fitted tells j below in
      let needs : need_next less w.stop.session ≡ Some f.words = ap (need_next less) same ∙ f.needs in
      let words : need less w.stop.session w.stop.member w.stop.task ≡ f.words = same_Some (need less w.stop.session w.stop.member w.stop.task) f.words (sym (next_need less w.stop.session w.stop.member w.stop.task w.stop.next) ∙ needs) in
      let fits : need less w.stop.session w.stop.member w.stop.task ≤ less = subst (λ (z : ℕ). z ≤ less) (sym words) f.fits in
      let fits' = need_more less core w.stop.session w.stop.member w.stop.task le fits in
      grind arith

-- ---- how the second call ends

module _ {S B L : Type 0} (words : List (Bor (List ℕ))) (left : S → Option (List ℕ)) (source_faults : S → ℕ) (image image' : S) (d : Device B) (machine : Option Machine) (taken : L → Option (List ℕ)) (faults : L → ℕ) (old new : L)
    (w : AsksForResume words) (tells : DeviceTells d) (s : Session) (k : Machine) (stands : StandsAt d.before k s) (printed : List ℕ) (given : left image ≡ Some printed) (law : PartsTellSessions)
    (same : (card : ℕ) (p : ImageParts) → length printed ≤ limit → told_in (Some d.sectors) printed ≡ Ok (card, p) → p ≡ parts_of k)
    (read : Stayed source_faults image image') (calm : Stayed faults old new) (worked : Worked d) (core : ℕ) (size : length k.cpu.core ≡ core)
    (never : (e : Device B) → DeviceTells e → (steps : ℕ) (m : Machine) (text : Text) → WantsCore e core steps (run_from s) m text → ⊥) (answer : ℕ) (accepted : answer ≡ 2 → ⊥) where
  by_stop : (n steps status : ℕ) (text : Text) (m : Machine) → n ≡ core → answer ≡ status → StopsOpened (knowing d.before d) n steps (run_from s) closings.Plain m status text → EndsToo 0 answer
  by_stop n steps status text m is a (all_end z h) = as_well (a ∙ z)
  by_stop n steps status text m is a (halt_comes z h) = absurd (none-some steps h.halt)
  by_stop n steps status text m is a (step_wants_core z h) = absurd (never (knowing d.before d) tells steps m text (subst (λ (c : ℕ). WantsCore (knowing d.before d) c steps (run_from s) m text) is h))
  by_stop n steps status text m is a (step_wants_sectors z h) = sectors_wanted (a ∙ z)
  by_stop n steps status text m is a (step_fails z failed h) = absurd (omega (arith, failed, worked))

  by_steps : (n steps : ℕ) (m : Machine) → n ≡ core → StepsEnd taken faults (knowing d.before d) n steps (run_from s) closings.Plain m old new answer → EndsToo 0 answer
  by_steps n steps m is (steps_stop status text none stops (all_taken a took)) = by_stop n steps status text m is a stops
  by_steps n steps m is (steps_stop status text none stops (cut_short count a rose part)) = absurd (omega (arith, rose, calm))
  by_steps n steps m is (next_is_cut text cut a rose part) = absurd (omega (arith, rose, calm))

  by_due : (status : ℕ) (text : Text) → answer ≡ status → IsDue words left source_faults image image' d machine status text → EndsToo 0 answer
  by_due status text a (usage_due c g kept m z t) = no_command (a ∙ z)
  by_due status text a (refusal_due command b refusal c r kept judged m z t) = absurd (accepted (a ∙ z))
  by_due status text a (print_due command b out c r kept judged m z t) = as_well (a ∙ z)
  by_due status text a (image_due command sectors card reason c wanted r kept m z t) = absurd (accepted (a ∙ z))
  by_due status text a (dump_due i dump o kept m z t) = as_well (a ∙ z)
  by_due status text a (run_due n p its_run stops) =
      let is : its_run.command ≡ commands.Resume = resume_words words w its_run.command its_run.is in
      absurd (none-some n (sym (ap core_asked is) ∙ its_run.opens))
  by_due status text a (reading_due c rose kept m z t) = absurd (omega (arith, rose, read))
  by_due status text a (memory_due c kept m z t) = memory_wanted (a ∙ z)

  pub rest_ends : Answered words left source_faults image image' d machine taken faults old new answer → EndsToo 0 answer
  rest_ends (answered status text due (all_taken a took)) = by_due status text a due
  rest_ends (answered status text due (cut_short count a rose part)) = absurd (omega (arith, rose, calm))
  rest_ends (cut_in_step n p text count its_run printing a rose part) = absurd (omega (arith, rose, calm))
  rest_ends (goes_on g) =
      let read_it = g.of.read in
      let is : printed ≡ read_it.0 = (read_it.1.told printed given).0 in
      let meant = subst (λ (t : List ℕ). IsMeant (Ok g.image) (told_in (Some d.sectors) t)) (sym is) read_it.2 in
      let again = stands_again words left source_faults image image' d machine taken faults old new w tells s k stands printed given law same g.image meant in
      let parts : parts_of g.image ≡ parts_of k = meant.2.parts ∙ same meant.0.0 meant.0.1 (told_short (Some d.sectors) printed meant.0 meant.1) meant.1 in
      let e = g.gone.each d.before s (says_self d.before) again in
      by_steps (length g.image.cpu.core) e.0 g.k (ap (λ (p : ImageParts). length p.core) parts ∙ size) e.2
