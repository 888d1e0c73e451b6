-- Programs behind those that are done.
use Rattle.std.proofs.Common.{◌≡◌, ℕ, suc, ◌+◌, ◌<◌, ◌≤◌, List, [], ◌∷◌, ◌++◌, Ok, Err, refl, ap, append_assoc, ◌∙◌, sym, get_or, drop, map, length, add-one}
use Rattle.std.specs.List.{AllByRecursion}
use Rattle.std.proofs.Math.Seq.{drop-cons}
use Rattle.std.proofs.lemmas.List.{map-append, append-nil, drop_all}
use Rattle.b67_codefile.specs.declared.file.Codefile.{Codefile}
use Rattle.b67_codefile.specs.Spelling.{IsWithin}
use Rattle.b67_codefile.specs.Meaning.{program_of}
use Rattle.b67_model.specs.Program.{Program}
use Rattle.b67_model_text.specs.declared.deck.Job.{Job}
use Rattle.b67_job.specs.Admitting.{Admission, ◌>>=◌, program_in, programs}
use Rattle.b67_asm.proofs.Parts.{all_one}

abbrev pub behind : List Program → Admission (List Program) → Admission (List Program)
behind done (Ok ps) = Ok (done ++ ps)
behind done (Err r) = Err r

-- one program more is done
behind_one : (done : List Program) (p : Program) (answer : Admission (List Program)) → behind done (answer >>= λ ps. Ok (p ∷ ps)) ≡ behind (done ++ p ∷ []) answer
behind_one done p (Ok ps) = ap Ok (sym (append_assoc done (p ∷ []) ps))
behind_one done p (Err r) = refl

behind_next : (done : List Program) (j : Job) (more : List Job) (p : Program) → program_in j.body_card j.program ≡ Ok p
    → behind done (programs (j ∷ more)) ≡ behind (done ++ p ∷ []) (programs more)
behind_next done j more p e = rw e (behind_one done p (programs more))

-- a turn of the loop over jobs
pub turn : (jobs : List Job) (i : ℕ) (j : Job) (files now : List Codefile) (file : Codefile)
    → i < length jobs → j ≡ get_or jobs i j → program_in j.body_card j.program ≡ Ok (program_of file) → IsWithin file → now ≡ files ++ file ∷ []
    → AllByRecursion IsWithin files → programs jobs ≡ behind (map program_of files) (programs (drop i jobs))
    → AllByRecursion IsWithin now × (programs jobs ≡ behind (map program_of now) (programs (drop (i + 1) jobs)))
turn jobs i j files now file low is e within pushed all before =
    let here : drop i jobs ≡ j ∷ drop (i + 1) jobs = rw (add-one i) (drop-cons jobs i j low ∙ ap (λ (x : Job). x ∷ drop (suc i) jobs) (sym is)) in (
      rw pushed (all_one IsWithin files file all within),
      before ∙ ap (λ (rest : List Job). behind (map program_of files) (programs rest)) here ∙ behind_next (map program_of files) j (drop (i + 1) jobs) (program_of file) e
          ∙ ap (λ (done : List Program). behind done (programs (drop (i + 1) jobs))) (sym (map-append program_of files (file ∷ [])) ∙ ap (map program_of) (sym pushed)),
    )

-- the loop ends
pub all_done : (jobs : List Job) (i : ℕ) (files : List Codefile) → length jobs ≤ i
    → programs jobs ≡ behind (map program_of files) (programs (drop i jobs)) → programs jobs ≡ Ok (map program_of files)
all_done jobs i files high before =
    before ∙ ap (λ (rest : List Job). behind (map program_of files) (programs rest)) (drop_all i jobs high) ∙ ap Ok (append-nil (map program_of files))
