-- What two steps did, one after the other, to the bytes that a reader has left; and what a call did to those that a writer holds.
use Rattle.std.proofs.Common.{◌≡◌, ℕ, List, [], ◌++◌, append-nil, append_assoc, sym, subst, ◌∙◌, ap, Option, Some}
use Rattle.std.proofs.lemmas.Bool.{false≢true}
use Rattle.std.proofs.lemmas.List.{append_cancel_left}
use Rattle.std.proofs.lemmas.Option.{same_Some}
use Rattle.std.specs.Io.KnownBytes.{Consumes}
use Rattle.std.specs.declared.io.Write.{Ghosts}
use Rattle.std.proofs.KnownBytes.{Consumes-nil, Consumes-trans}
use Rattle.b67_recorded.specs.Faithful.{GaveNoted, TookNoted}
use Rattle.b67_recorded.specs.declared.sink.RecordedSink.{RecordedSink}
use Rattle.b67_recorded.specs.declared.source.RecordedSource.{RecordedSource}

-- the bytes that were noted behind the first ones are these, whatever they are called
module _ (a b : Option (List ℕ)) (given given' : List ℕ) where
  pub consumed : (bytes part : List ℕ) → given' ≡ given ++ bytes → Consumes a b bytes → given' ≡ given ++ part → Consumes a b part
  consumed bytes part is took e = subst (λ (x : List ℕ). Consumes a b x) (append_cancel_left given bytes part (sym is ∙ e)) took

-- those of a step, and of a step after it
module _ (a b c : Option (List ℕ)) (given mid given' : List ℕ) where
  pub consumed_more : (bytes more part : List ℕ) → mid ≡ given ++ bytes → Consumes a b bytes → given' ≡ mid ++ more → Consumes b c more → given' ≡ given ++ part → Consumes a c part
  consumed_more bytes more part is took is' took' e =
      consumed a c given given' (bytes ++ more) part (is' ∙ ap (λ (x : List ℕ). x ++ more) is ∙ append_assoc given bytes more) (Consumes-trans a b c bytes more took took') e

-- where nothing was read
pub gave_none : {R : Type 0} (remaining : R → Option (List ℕ)) (input : RecordedSource R) → GaveNoted remaining input input
gave_none remaining input = record {
  told = λ bytes e. consumed (remaining input.inner) (remaining input.inner) input.given.bytes input.given.bytes [] bytes (sym (append-nil input.given.bytes)) (Consumes-nil (remaining input.inner)) e;
  ended = λ was is. absurd (false≢true (sym was ∙ is));
}

-- what is noted at a printer is what its writer holds: so of two of them
pub took_noted : {W : Type 0} {w : Ghosts W} (old new : RecordedSink W w) → TookNoted old new
took_noted old new = record {
  told = λ all before out is noted. new.told all ∙ ap Some (noted ∙ ap (λ (x : List ℕ). x ++ out) (same_Some old.noted.bytes before (sym (old.told all) ∙ is)));
}
