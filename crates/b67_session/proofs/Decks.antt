-- Decks within the ranges of their cards open sessions within their limits.
use Rattle.std.proofs.Common.{◌≡◌, ℕ, ◌+◌, ◌<◌, ◌≤◌, ◌^◌, List, [], ◌∷◌, ◌++◌, length, map, drop, inl, inr, refl, sym, ◌∙◌, ap, subst, arith}
use Rattle.std.specs.List.{AllByRecursion}
use Rattle.std.proofs.lemmas.List.{drop_more, length-map}
use Rattle.b67_word.specs.Tagged.{Tagged, contents}
use Rattle.b67_model_text.specs.declared.deck.Deck.{Deck}
use Rattle.b67_model_text.specs.declared.deck.Job.{Job}
use Rattle.b67_model_text.specs.declared.deck.Switch as text
use Rattle.b67_codefile.specs.declared.file.Segment.{Segment}
use Rattle.b67_codefile.specs.declared.file.Codefile.{Codefile}
use Rattle.b67_codefile.specs.Spelling.{HasTag, IsFileSegment, IsRow}
use Rattle.b67_codefile.specs.Meaning.{segment_of, program_of}
use Rattle.b67_lemmas.specs.Lists.{Has}
use Rattle.b67_lemmas.proofs.Places.{get_within}
use Rattle.b67_model.specs.Program.{Program}
use Rattle.b67_model.specs.InOrder.{SegmentInOrder}
use Rattle.b67_law.specs.Opening.{RowWithin, OpeningWithin, DeckWithin}
use Rattle.b67_layout.specs.Rows.{JobRow, TaskRow, TablesShow}
use Rattle.b67_session.specs.Opened.{opening_plan, programs_of}
use Rattle.b67_session.specs.Tables.{first_row, first_rows, opening_rows, opening_counts}
use Rattle.b67_session.proofs.InitialTables.{tables_show}
use Rattle.b67_task.specs.declared.tables.JobRow as kept
use Rattle.b67_task.specs.declared.tables.TaskRow as task
use Rattle.b67_task.specs.Tables.{switch_of, task_row, Given}
use Rattle.b67_session.specs.Decks.{openings_of, session_of, jobs_given, deck_given, rows_given, JobInRange, DeckInRange, IsLoaded, IsCountable}

bits_fit : (tag : ℕ) (ws : List Tagged) → AllByRecursion (HasTag tag) ws → AllByRecursion (λ (n : ℕ). n < 2 ^ 48) (contents ws)
bits_fit tag [] h = tt
bits_fit tag (w ∷ ws) h = (h.0.bits, bits_fit tag ws h.1)

segments_fit : (ss : List Segment) → AllByRecursion IsFileSegment ss → AllByRecursion SegmentInOrder (map segment_of ss)
segments_fit [] h = tt
segments_fit (s ∷ more) h = grind (arith, length-map, bits_fit, segments_fit more h.1)

rows_fit : (rs : List (List Tagged)) → AllByRecursion IsRow rs → AllByRecursion RowWithin (map contents rs)
rows_fit [] h = tt
rows_fit (r ∷ more) h = grind (arith, length-map, bits_fit, rows_fit more h.1)

openings_fit : (js : List Job) (fs : List Codefile) → AllByRecursion JobInRange js → AllByRecursion IsLoaded fs → AllByRecursion OpeningWithin (openings_of js (map program_of fs))
openings_fit [] fs h k = tt
openings_fit (j ∷ js) [] h k = tt
openings_fit (j ∷ js) (f ∷ fs) h k = grind (arith, segments_fit, rows_fit, length-map, openings_fit js fs h.1 k.1)

openings_few : (js : List Job) (ps : List Program) → length (openings_of js ps) ≤ length js
openings_few [] ps = omega arith
openings_few (j ∷ js) [] = omega arith
openings_few (j ∷ js) (p ∷ ps) = omega (arith, openings_few js ps)

pub deck_within : (d : Deck) (fs : List Codefile) → DeckInRange d → AllByRecursion IsLoaded fs → DeckWithin d.stack (map switch_of d.switches) (openings_of d.jobs (map program_of fs))
deck_within d fs range loaded = grind (arith, openings_few, openings_fit)

pub programs_back : (js : List Job) (ps : List Program) → length ps ≡ length js → programs_of (openings_of js ps) ≡ ps
programs_back [] [] e = refl
programs_back [] (p ∷ ps) e = absurd (omega (arith, e))
programs_back (j ∷ js) [] e = absurd (omega (arith, e))
programs_back (j ∷ js) (p ∷ ps) e = ap (λ qs. p ∷ qs) (programs_back js ps (omega (arith, e)))

-- the tables of a deck
pub tables_given : (d : Deck) (ps : List Program) (rows : List TaskRow) (jobs : List JobRow) (switches : List text.Switch) → DeckInRange d → length ps ≡ length d.jobs
    → rows ≡ first_rows 0 ps → jobs ≡ opening_rows 160 (openings_of d.jobs ps) → switches ≡ d.switches
    → TablesShow (opening_plan d.stack ps) (session_of d ps) rows jobs (opening_counts d.quantum (map switch_of switches))
tables_given d ps rows jobs switches range each is_rows is_jobs is_switches =
    let os = openings_of d.jobs ps in
    let back = programs_back d.jobs ps each in
    let shown = tables_show d.stack d.quantum (map switch_of d.switches) os (omega (arith, range.few, openings_few d.jobs ps)) in
    grind arith

-- what tables have that take it over from a deck
pub tables_have : (d : Deck) (ws : List text.Switch) (rows : List kept.JobRow) → ws ≡ d.switches → rows_given rows ≡ jobs_given d.jobs
    → ◌≡◌ {A = Given} (record { halt = d.halt; quantum = d.quantum; switches = ws; jobs = rows_given rows }) (deck_given d)
tables_have d ws rows switches jobs = grind arith

-- each row can be counted
pub each_countable : (rows : List kept.JobRow) → AllByRecursion IsCountable rows → (r : kept.JobRow) → Has rows r → IsCountable r
each_countable [] h r i = absurd i
each_countable (q ∷ more) h r (inl e) = subst (λ (p : kept.JobRow). IsCountable p) e h.0
each_countable (q ∷ more) h r (inr i) = each_countable more h.1 r i

-- one row more
pushed : {A B : Type 0} (f : A → B) (xs : List A) (x : A) (ys : List B) → map f (xs ++ x ∷ []) ++ ys ≡ map f xs ++ f x ∷ ys
pushed f [] x ys = refl
pushed f (y ∷ xs) x ys = ap (λ zs. f y ∷ zs) (pushed f xs x ys)

pub rows_step : (rows new : List task.TaskRow) (row : task.TaskRow) (fs : List Codefile) (k : ℕ) (all : List TaskRow) → k < length fs → new ≡ rows ++ row ∷ [] → task_row row ≡ first_row k
    → map task_row rows ++ first_rows k (map program_of (drop k fs)) ≡ all → map task_row new ++ first_rows (k + 1) (map program_of (drop (k + 1) fs)) ≡ all
rows_step rows new row fs k all low is shows e =
    let f = get_within fs k low in
    let rest = first_rows (k + 1) (map program_of (drop (k + 1) fs)) in
    let next : first_rows k (map program_of (drop k fs)) ≡ first_row k ∷ rest = ap (λ (gs : List Codefile). first_rows k (map program_of gs)) (drop_more fs k f.0 low) in
    ap (λ rs. map task_row rs ++ rest) is
    ∙ pushed task_row rows row rest
    ∙ ap (λ r. map task_row rows ++ r ∷ rest) shows
    ∙ ap (λ rs. map task_row rows ++ rs) (sym next)
    ∙ e
