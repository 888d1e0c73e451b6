-- The display stays where the frames of the running task keep their identities, standings and places.
use Rattle.std.proofs.Common.{◌≡◌, ℕ, zero, suc, ◌-◌, List, [], ◌∷◌, ◌++◌, map, Some, refl, sym, ◌∙◌, ap, arith, true, false, ◌==◌, ⊎_elim, unwrap_or}
use Rattle.std.specs.Prelude.{if◌then◌else◌, flat_map}
use Rattle.std.proofs.lemmas.Bool.{cases_Bool}
use Rattle.std.proofs.lemmas.List.{map-append}
use Rattle.std.proofs.lemmas.Option.{same_Some}
use Rattle.b67_model.specs.State as State
use Rattle.b67_model.specs.Common.{Frame, Standing, Task, JobProgress, SessionJob, OperatorContext, all_frames, frame, no_frame, level_of_standing, environment_of, level_of_frame, running_from, running, outward, running_level, frame_at, Known, known_of}
use Rattle.b67_model.specs.Keyed.{keyed, change_keyed}
use Rattle.b67_stack.specs.Stacks.{StackPlace}
use Rattle.b67_layout.specs.Common.{Placement, spots, address_of, ShowsDisplay}

-- looking up by identity reads identities and standings alone
known_look : ℕ → Known → List Known → Known
known_look id d [] = d
known_look id d (k ∷ ks) = if k.0 == id then k else known_look id d ks

look-known : (d : Frame) (id : ℕ) (xs : List Frame) → known_of (unwrap_or (keyed (λ f. f.identity) id xs) d) ≡ known_look id (known_of d) (map known_of xs)
unfolding known_look
look-known d id [] = refl
look-known d id (f ∷ fs) = grind (arith, look-known d id fs)

same_look : (d : Frame) (id : ℕ) (xs ys : List Frame) → map known_of xs ≡ map known_of ys → known_of (unwrap_or (keyed (λ f. f.identity) id xs) d) ≡ known_of (unwrap_or (keyed (λ f. f.identity) id ys) d)
same_look d id xs ys e = look-known d id xs ∙ ap (known_look id (known_of d)) e ∙ sym (look-known d id ys)

run_look-by : Known → Standing → Known → Known
run_look-by k State.Marked next = next
run_look-by k (State.Entered level environment back) next = k

run_look : List Known → Known
run_look [] = known_of no_frame
run_look (k ∷ ks) = run_look-by k k.1 (run_look ks)

running-by : (s : Standing) (f next : Frame) → known_of (running_from s f next) ≡ run_look-by (known_of f) s (known_of next)
unfolding run_look-by
running-by State.Marked f next = refl
running-by (State.Entered level environment back) f next = refl

running-known : (fs : List Frame) → known_of (running fs) ≡ run_look (map known_of fs)
unfolding run_look
running-known [] = refl
running-known (f ∷ below) = running-by f.standing f (running below) ∙ ap (run_look-by (known_of f) f.standing) (running-known below)

pub same_running : (xs ys : List Frame) → map known_of xs ≡ map known_of ys → known_of (running xs) ≡ known_of (running ys)
same_running xs ys e = running-known xs ∙ ap run_look e ∙ sym (running-known ys)

module _ (h h' : OperatorContext) (frames : map known_of (all_frames h') ≡ map known_of (all_frames h)) where
  same_frame : (id : ℕ) → known_of (frame h' id) ≡ known_of (frame h id)
  same_frame id = same_look no_frame id (all_frames h') (all_frames h) frames

  same_outward : (links : ℕ) (g' g : Frame) → known_of g' ≡ known_of g → known_of (outward h' links g') ≡ known_of (outward h links g)
  same_outward zero g' g e = e
  same_outward (suc links) g' g e = grind (arith, same_frame, same_outward links)

  -- the frame at a level is the same, as far as others may name it
  pub same_frame_at : (n : ℕ) → map known_of h'.task.frames ≡ map known_of h.task.frames → known_of (frame_at h' n) ≡ known_of (frame_at h n)
  same_frame_at n own = grind (arith, same_running, same_outward)

-- all frames of a job, where one task's keep their identities and standings
pub tasks_known : (n : ℕ) (t t' : Task) → map known_of t'.frames ≡ map known_of t.frames → (xs : List Task) → keyed (λ (u : Task). u.number) n xs ≡ Some t
    → map known_of (flat_map (λ (u : Task). u.frames) (change_keyed (λ (u : Task). u.number) n (λ u. t') xs)) ≡ map known_of (flat_map (λ (u : Task). u.frames) xs)
tasks_known n t t' e [] k = refl
tasks_known n t t' e (y ∷ ys) k = grind (arith, map-append, tasks_known n t t' e ys)

-- the display of the task that changed
pub Shows-same : (display : List ℕ) (plan : Placement) (m : SessionJob) (c : JobProgress) (t t' : Task)
    → keyed (λ (u : Task). u.number) t.number m.progress.job.tasks ≡ Some t → c.job.tasks ≡ change_keyed (λ (u : Task). u.number) t.number (λ u. t') m.progress.job.tasks
    → map known_of t'.frames ≡ map known_of t.frames
    → ((id : ℕ) → spots plan m.constants.number c.job t' id ≡ spots plan m.constants.number m.progress.job t id)
    → ShowsDisplay display plan m t → ShowsDisplay display plan (record m { progress = c }) t'
Shows-same display plan m c t t' there tasks own places shown n up =
    let h : OperatorContext = record { constants = m.constants; job = m.progress.job; task = t; at = t.place } in
    let h' : OperatorContext = record { constants = m.constants; job = c.job; task = t'; at = t'.place } in
    let in_tasks : map known_of (flat_map (λ (u : Task). u.frames) c.job.tasks) ≡ map known_of (flat_map (λ (u : Task). u.frames) m.progress.job.tasks) =
    ap (λ (ts : List Task). map known_of (flat_map (λ (u : Task). u.frames) ts)) tasks ∙ tasks_known t.number t t' own m.progress.job.tasks there in
    let frames : map known_of (all_frames h') ≡ map known_of (all_frames h) =
    map-append known_of (flat_map (λ (u : Task). u.frames) c.job.tasks) (m.constants.dictionary ∷ State.mcp ∷ [])
    ∙ ap (λ (ks : List Known). ks ++ map known_of (m.constants.dictionary ∷ State.mcp ∷ [])) in_tasks
    ∙ sym (map-append known_of (flat_map (λ (u : Task). u.frames) m.progress.job.tasks) (m.constants.dictionary ∷ State.mcp ∷ [])) in
    let level : level_of_frame (running t'.frames) ≡ level_of_frame (running t.frames) = ap (λ (k : Known). level_of_standing k.1) (same_running t'.frames t.frames own) in
    let id : (frame_at h' n).identity ≡ (frame_at h n).identity = ap (λ (k : Known). k.0) (same_frame_at h h' frames n own) in
    shown n (omega (arith, up, level))
    ∙ ap (λ (i : ℕ). Some (address_of plan (spots plan m.constants.number m.progress.job t i))) (sym id)
    ∙ ap (λ (s : StackPlace). Some (address_of plan s)) (sym (places (frame_at h' n).identity))
