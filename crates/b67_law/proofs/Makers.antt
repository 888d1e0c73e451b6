-- What made each word, mark and return of each state of a run.
use Rattle.std.proofs.Common.{◌≡◌, ℕ, zero, suc, ◌+◌, ◌<◌, List, Option, Some, None, Ok, refl, sym, ap, ◌∙◌, subst, inl, inr, ◌⊎◌, arith}
use Rattle.b67_word.specs.declared.couples.Place.{Place}
use Rattle.b67_model.specs.declared.operators.Op.{Op}
use Rattle.b67_model.specs.Keyed.{keyed}
use Rattle.b67_lemmas.specs.Lists.{Has}
use Rattle.b67_lemmas.proofs.Members.{keyed_has}
use Rattle.b67_model.specs.Common.{Word, Standing, Entered, Task, SessionJob, called, reading_of, step_of, Session, Choice, choice, StepResult, number_of, of_job, with_moment, moment_by, moment_for, next, after_from, after}
use Rattle.b67_law.specs.Opening.{opening}
use Rattle.b67_law.proofs.Kept.{here}
use Rattle.b67_law.specs.Made.{OperatorMakes, MakesMark, StandsIn, HasWord, HasMark}
use Rattle.b67_law.specs.RunMade.{MakesOperator, context, EarlierStep, RunsMakeTheirWords, HoldsOfJob, SessionsKeepOrMakeTheirWords}
use Rattle.b67_law.proofs.Opened.{openings_are_made_by_the_loader}
use Rattle.b67_law.proofs.WordsKept.{has_changed, TasksMade, Maker, step_kept}

-- the state after one step more
pub after_more : (k : ℕ) (first s : Session) (m : StepResult) → after k first ≡ s → next s ≡ Some m → after (suc k) first ≡ m.session
after_more zero first s m is e = let found : next first ≡ Some m = ap next is ∙ e in rw found refl
after_more (suc k) first s m is e = grind (arith, after_more k)

-- from a session in which these words and marks of each job stand
module _ (first : Session) (total : ℕ) (WordStood : ℕ → Word → Type 0) (MarkStood : ℕ → ℕ → Standing → Type 0) where
  abbrev pub WordOf : ℕ → Word → Type 0
  WordOf job w = WordStood job w ⊎ EarlierStep first total job (λ op call. OperatorMakes op call w)

  abbrev pub MarkOf : ℕ → ℕ → Standing → Type 0
  MarkOf job identity standing = MarkStood job identity standing ⊎ EarlierStep first total job (λ op call. MakesMark op call standing)

  abbrev pub JobMade : ℕ → List Task → Type 0
  JobMade job tasks = TasksMade (WordOf job) (MarkOf job) tasks

  abbrev pub SessionMade : Session → Type 0
  SessionMade s = (m : SessionJob) → Has s.jobs m → JobMade (number_of m) m.progress.job.tasks

  maker : (k : ℕ) (s : Session) (c : Choice) (m : SessionJob) (task : Task) (op : Op) (place : Place) → after k first ≡ s → k < total → choice s ≡ Some c →
      keyed number_of c.who.job s.jobs ≡ Some m → keyed (λ t. t.number) c.who.task m.progress.job.tasks ≡ Some task → reading_of m.constants task ≡ Ok (op, place) → Maker (WordOf c.who.job) (MarkOf c.who.job) op (called op (here m.constants m.progress.job task place))
  maker k s c m task op place is below chooses found live reads = record {
    words = λ w made. inr (at (λ o call. OperatorMakes o call w) made);
    marks = λ identity standing made. inr (at (λ o call. MakesMark o call standing) made);
  }
    where
      step : (Made : Op → Option ℕ → Type 0) (x : Session) → after k first ≡ x → (r : MakesOperator x c.who.job c.who.task op) → Made op (called op (context r)) → EarlierStep first total c.who.job Made
      step Made x is' r made = subst (λ (y : Session). (r : MakesOperator y c.who.job c.who.task op) → Made op (called op (context r)) → EarlierStep first total c.who.job Made) is'
          (λ ran made'. record { steps_before = k; earlier = below; number = c.who.task; op = op; ran = ran; made = made' }) r made

      at : (Made : Op → Option ℕ → Type 0) → Made op (called op (here m.constants m.progress.job task place)) → EarlierStep first total c.who.job Made
      at Made made = step Made s is (record { chosen = c; chooses = chooses; of_job = refl; of_task = refl; member = m; found = found; task = task; live = live; next = place; stands = reads }) made

  next_made : (k : ℕ) (s : Session) (after' : StepResult) → after k first ≡ s → k < total → SessionMade s → next s ≡ Some after' → SessionMade after'.session
  unfolding next
  next_made k s after' is below all e = by_choice (choice s) refl e
    where
      by_member : (c : Choice) (o : Option SessionJob) → choice s ≡ Some c → keyed number_of c.who.job s.jobs ≡ o → moment_by s c o ≡ Some after' → SessionMade after'.session
      by_member c None chooses found f = absurd (let z : ⊥ = cc in z)
      by_member c (Some m) chooses found f =
          let made = step_of m.constants m.progress c.who.task in
          let moment : StepResult = record { session = with_moment s c m made; lines = of_job c.who.job made.lines } in
          let some : Some moment ≡ Some after' = f in
          let same : moment ≡ after' = cc in
          let named = keyed_has number_of c.who.job s.jobs m found in
          let old : JobMade c.who.job m.progress.job.tasks = subst (λ j. JobMade j m.progress.job.tasks) named.1 (all m named.0) in
          let new : JobMade c.who.job made.progress.job.tasks =
          step_kept (WordOf c.who.job) (MarkOf c.who.job) m.constants m.progress c.who.task old (λ task op place live reads. maker k s c m task op place is below chooses found live reads) in
          subst (λ (x : StepResult). SessionMade x.session) same (λ k' h. elim (has_changed number_of c.who.job (λ (x : SessionJob). record x { progress = made.progress }) s.jobs k' h) [
            | inl r ↦ subst (λ (x : SessionJob). JobMade (number_of x) x.progress.job.tasks) r.is (subst (λ j. JobMade j made.progress.job.tasks) (sym r.named) new)
            | inr among ↦ all k' among
          ])

      by_choice : (o : Option Choice) → choice s ≡ o → moment_for s o ≡ Some after' → SessionMade after'.session
      by_choice None is' f = absurd (let z : ⊥ = cc in z)
      by_choice (Some c) is' f = by_member c (keyed number_of c.who.job s.jobs) is' refl f

  follows : (n k : ℕ) (s : Session) → after k first ≡ s → k + n ≡ total → SessionMade s → SessionMade (after n s)
  follows zero k s is sum all = all
  follows (suc n) k s is sum all = by (follows n (suc k)) (next s) refl
    where
      by : ((s' : Session) → after (suc k) first ≡ s' → suc k + n ≡ total → SessionMade s' → SessionMade (after n s')) → (o : Option StepResult) → next s ≡ o → SessionMade (after_from (suc n) s o)
      by rest None e = all
      by rest (Some m) e = rest m.session (after_more k first s m is e) (omega (arith, sum)) (next_made k s m is (omega (arith, sum)) all e)

-- the opening session has no words, and the marks that the loader made
pub runs_make_their_words : RunsMakeTheirWords
runs_make_their_words n stack quantum switches openings m task f among live of_task =
    let s = opening stack quantum switches openings in
    let no_word : ℕ → Word → Type 0 = λ job w. ⊥ in
    let outer_mark : ℕ → ℕ → Standing → Type 0 = λ job identity standing. (identity ≡ 2) × (standing ≡ Entered 2 1 None) in
    let start : SessionMade s n no_word outer_mark s = λ m' among' t h g has.
    let o = openings_are_made_by_the_loader stack quantum switches openings m' among' in (
      λ w word. absurd (subst (λ (ws : List Word). Has ws w) (o.made.no_words t g h has) word),
      inl (o.made.outer_block t g h has, o.made.mark t g h has),
    ) in
    let made = follows s n no_word outer_mark n 0 s refl (omega arith) start m among task live f of_task in
    record { words = λ w word. elim (made.0 w word) [ inl none ↦ absurd none | inr step ↦ step ]; mark = made.1 }

-- any other has those that it has
pub sessions_keep_or_make_their_words : SessionsKeepOrMakeTheirWords
sessions_keep_or_make_their_words n s m task f among live of_task =
    let has_word : ℕ → Word → Type 0 = λ job w. HoldsOfJob s job (λ tasks. HasWord tasks w) in
    let has_mark : ℕ → ℕ → Standing → Type 0 = λ job identity standing. HoldsOfJob s job (λ tasks. HasMark tasks identity standing) in
    let start : SessionMade s n has_word has_mark s = λ m' among' t h g has.
    let stands : StandsIn m'.progress.job.tasks g = record { task = t; live = h; among = has } in (
      λ w word. inl (record { member = m'; among = among'; numbered = refl; holds = record { frame = g; stands = stands; among = word } }),
      inl (record { member = m'; among = among'; numbered = refl; holds = record { frame = g; stands = stands; identity_is = refl; standing_is = refl } }),
    ) in
    let made = follows s n has_word has_mark n 0 s refl (omega arith) start m among task live f of_task in
    record { words = made.0; mark = made.1 }
