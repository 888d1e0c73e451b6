-- Where a reader and a writer tell what they have: what the program's call prints is told of these.
use Rattle.std.proofs.Common.{◌≡◌, ◌≤◌, ◌⊎◌, inl, inr, ℕ, List, [], ◌∷◌, ◌++◌, length, sym, subst, ◌∙◌, refl, Option, Some, None, true, false}
use Rattle.std.proofs.lemmas.Option.{same_Some, none-some}
use Rattle.std.specs.Io.KnownBytes.{Consumes, IsAtEnd}
use Rattle.std.specs.declared.io.Write as write
use Rattle.b67_model_text.specs.Deck.{limit}
use Rattle.b67_backing.specs.declared.device.Backing.{Ghosts}
use Rattle.b67_recorded.specs.Faithful.{IsFaithful}
use Rattle.b67_recorded.specs.Telling.{AllTell}
use Rattle.b67_recorded.specs.declared.process.RecordedProcess.{RecordedProcess}
use Rattle.b67_recorded.specs.declared.sink.RecordedSink.{RecordedSink}
use Rattle.b67_recorded.specs.declared.source.RecordedSource.{RecordedSource}
use Rattle.b67_promises.specs.Shipped.{IsWholeText, IsStoppedEarly, PrintsAsDescribed, PrintsBehind}

-- what was told, and is told behind it
split : (a b : Option (List ℕ)) (read text : List ℕ) → a ≡ Some text → Consumes a b read → (rest : List ℕ) × (text ≡ read ++ rest) × (b ≡ Some rest)
split (Some xs) (Some ys) read text e took = (ys, sym (same_Some xs text e) ∙ took, refl)
split (Some xs) None read text e took = absurd took
split None b read text e took = absurd (none-some text e)

module _ {D F R W : Type 0} {g : Ghosts F} {h : write.Ghosts W} (core sectors : ℕ) (path : List ℕ) (process process' : RecordedProcess D F g) (input input' : RecordedSource R) (old new : RecordedSink W h) (status : ℕ) (remaining : R → Option (List ℕ)) where
  ends : (read rest : List ℕ) → remaining input'.inner ≡ Some rest → (input'.ended ≡ true → IsAtEnd (remaining input'.inner))
      → (IsWholeText read input'.ended × (process'.opened.texts ≡ process.opened.texts ++ path ∷ [])) ⊎ (IsStoppedEarly status × (process'.opened.texts ≡ process.opened.texts)) → IsStoppedEarly status ⊎ (length read ≤ limit → rest ≡ [])
  ends read rest left at_end (inl whole) = inr (λ few. subst IsAtEnd left (at_end (whole.0.all few)))
  ends read rest left at_end (inr early) = inl early.0

  pub behind : PrintsAsDescribed core sectors path process process' input input' old new status → IsFaithful remaining input input' old new → input.ended ≡ false → (text : List ℕ) → remaining input.inner ≡ Some text
      → AllTell h.contents → (held held' : List ℕ) → h.contents old.inner ≡ Some held → h.contents new.inner ≡ Some held' → PrintsBehind core sectors text held held' status
  behind x f fresh text is all held held' before after =
      let s = split (remaining input.inner) (remaining input'.inner) x.text text is (f.read.told x.text x.gave) in
      record {
        read = x.text;
        rest = s.0;
        first = s.1;
        all = ends x.text s.0 s.2 (f.read.ended fresh) x.opened;
        out = x.out;
        printed = same_Some held' (held ++ x.out) (sym after ∙ f.printed.told all held x.out before x.took);
        so = x.so;
      }
