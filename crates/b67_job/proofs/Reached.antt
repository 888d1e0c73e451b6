-- How far the steps of a slice came: whole steps, or all but the line of LIMIT.
use Rattle.std.proofs.Common.{◌≡◌, ◌≢◌, ℕ, ◌+◌, ◌<◌, List, ◌++◌, length, refl, sym, ap, ◌∙◌, subst, arith, append_assoc, Option, Some, None}
use Rattle.b67_model.specs.Common.{run_text, Session, IsInOrderButPlaces, RunLine, StepResult, lines, after}
use Rattle.b67_law.proofs.Limits.{no_last}
use Rattle.b67_law.proofs.TurnRuns.{Came, came-more}
use Rattle.b67_session.specs.Slices.{StepsReach, in_whole_steps, but_limit}
use Rattle.b67_session.proofs.Texts.{run_text-append}
use Rattle.b67_session_lines.specs.Moments.{first_part, last_part, due}
use Rattle.b67_job.proofs.Parts.{parts}

-- whole steps, where no last part is due
pub came_whole : (first : Session) (steps : ℕ) (s : Session) (printed : List RunLine) → StepsReach first steps s printed → last_part s ≡ None → Came first steps s printed
came_whole first steps s printed (in_whole_steps a l) none = record { session = a; lines_are = l }
came_whole first steps s printed (but_limit k part e f g some l) none = absurd (some none)

-- all but the last part of the last step
pub record Limited (first : Session) (steps : ℕ) (s : Session) (printed : List RunLine) : Type 0 where
  pub before : ℕ
  pub part : StepResult
  pub one_more : steps ≡ before + 1
  pub is_first : first_part (after before first) ≡ Some part
  pub session : part.session ≡ s
  pub some : last_part s ≢ None
  pub lines_are : lines before first ++ part.lines ≡ printed

pub came_limited : (first : Session) (steps : ℕ) (s : Session) (printed : List RunLine) → IsInOrderButPlaces (after steps first) → last_part s ≢ None → StepsReach first steps s printed → Limited first steps s printed
came_limited first steps s printed order some (in_whole_steps a l) = absurd (some (no_last s (subst IsInOrderButPlaces a order)))
came_limited first steps s printed order some (but_limit k part e f g rest l) = record { before = k; part = part; one_more = e; is_first = f; session = g; some = rest; lines_are = l }

-- ---- what is due begins the text of the next step, or ends that of the last one

due_by : (s : Session) (o : Option StepResult) → first_part s ≡ o → last_part s ≡ None → 0 < length (due s) → (p : StepResult) × (first_part s ≡ Some p) × (due s ≡ run_text p.lines)
due_by s None e none some = absurd (let long : length (due s) ≡ 0 = rw (none, e) refl in omega (arith, long, some))
due_by s (Some p) e none some = (p, e, rw (none, e) refl)

pub begins_step : (first : Session) (steps : ℕ) (s : Session) (printed : List RunLine) → Came first steps s printed → last_part s ≡ None → 0 < length (due s)
    → (rest : List ℕ) × ((run_text printed ++ due s) ++ rest ≡ run_text (lines (steps + 1) first))
begins_step first steps s printed c none some =
    let d = due_by s (first_part s) refl none some in
    let p = parts s d.0 d.1 in
    let one_more = came-more first steps s printed p.moment c p.is in (
      run_text p.more,
      ap (λ (x : List ℕ). (run_text printed ++ x) ++ run_text p.more) d.2
          ∙ append_assoc (run_text printed) (run_text d.0.lines) (run_text p.more)
          ∙ ap (λ (x : List ℕ). run_text printed ++ x) (sym (run_text-append d.0.lines p.more))
          ∙ ap (λ (x : List RunLine). run_text printed ++ run_text x) (sym p.begins)
          ∙ sym (run_text-append printed p.moment.lines)
          ∙ ap run_text (sym one_more.lines_are),
    )

last_by : (s : Session) (o : Option StepResult) → last_part s ≡ o → last_part s ≢ None → (l : StepResult) × (last_part s ≡ Some l) × (due s ≡ run_text l.lines)
last_by s None e some = absurd (some e)
last_by s (Some l) e some = (l, e, rw e refl)

pub ends_step : (first : Session) (before : ℕ) (part : StepResult) → first_part (after before first) ≡ Some part → last_part part.session ≢ None
    → (run_text (lines before first) ++ run_text part.lines) ++ due part.session ≡ run_text (lines (before + 1) first)
ends_step first before part e some =
    let l = last_by part.session (last_part part.session) refl some in
    let p = parts (after before first) part e in
    let c : Came first before (after before first) (lines before first) = record { session = refl; lines_are = refl } in
    let one_more = came-more first before (after before first) (lines before first) p.moment c p.is in
    let printed = run_text (lines before first) in
    ap (λ (x : List ℕ). (printed ++ run_text part.lines) ++ x) l.2
    ∙ append_assoc printed (run_text part.lines) (run_text l.0.lines)
    ∙ ap (λ (x : List ℕ). printed ++ x) (sym (run_text-append part.lines l.0.lines))
    ∙ ap (λ (x : List RunLine). printed ++ run_text x) (sym (p.both l.0 l.1))
    ∙ sym (run_text-append (lines before first) p.moment.lines)
    ∙ ap run_text (sym one_more.lines_are)
