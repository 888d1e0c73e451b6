-- What is read in the code of assembled cards.
use Rattle.std.specs.Prelude.{◌≡◌, ℕ, ◌/◌, ◌^◌, ◌<◌, ◌⊎◌, List, [], ◌∷◌, length, map, Option, Some, None, true, Ok}
use Rattle.std.specs.List.{AllByRecursion}
use Rattle.std.specs.Option.{option_map}
use Rattle.b67_word.specs.declared.couples.Place.{Place}
use Rattle.b67_lemmas.specs.Lists.{Has}
use Rattle.b67_model.specs.declared.operators.Op.{Op}
use Rattle.b67_model.specs.declared.operators.Op.TheVariants.{Plain}
use Rattle.b67_model.specs.declared.operators.Code.TheVariants.{Nvld}
use Rattle.b67_model.specs.Common.{place_at, place_of_bits, Entry, At, Break, origin, listing, place_of_entry, target_of, proc_bits, Segment, Program}
use Rattle.b67_model_text.specs.declared.card.Card.{Card}
use Rattle.b67_model_text.specs.declared.assembly.Line.{Line}
use Rattle.b67_model_text.specs.declared.assembly.Sketch.{Sketch}
use Rattle.b67_model_text.specs.declared.assembly.Sketch.TheVariants.{Jump, Pcw, PcwAt}
use Rattle.b67_model_text.specs.declared.assembly.Statement.{Statement}
use Rattle.b67_model_text.specs.declared.assembly.Statement.TheVariants as statements
use Rattle.b67_model_text.specs.Answers.{Answer}
use Rattle.b67_model_text.specs.Statements.{lines_of}
use Rattle.b67_model_text.specs.Asm.{Scope, names_of, segment_count, meaning, labels, label_in, has_entry, denoted, cards_of_segments, assembled}

-- what a segment's own cards may name
abbrev pub scope_in : List Line → List Line → ℕ → Scope
scope_in all cards level = record {
  names = names_of all;
  segments = segment_count 0 all;
  level = level;
  labels = λ label. meaning (labels 0 cards) label;
}

-- a card's label means the place at which its operator is read
abbrev pub LabelStandsAt : (List ℕ → Option ℕ) → Option (List ℕ) → Place → Type 0
LabelStandsAt labels None place = Unit {0}
LabelStandsAt labels (Some label) place = option_map place_at (labels label) ≡ Some place

-- the place of the procedure that an operator makes
abbrev pub begins_at : Op → Option Place
begins_at op = option_map (λ bits. place_of_bits (bits / 2 ^ 20)) (proc_bits op)

-- a branch goes to the place that its label means; a procedure begins at its segment's first place, or at the place that
-- the label means there
abbrev pub GoesTo : Scope → Sketch → Op → Type 0
GoesTo x (Jump branch label) op = target_of op ≡ option_map place_at (x.labels label)
GoesTo x (Pcw segment) op = begins_at op ≡ Some origin
GoesTo x (PcwAt segment label) op = begins_at op ≡ option_map place_at (label_in x.names (x.names.means segment) label)
GoesTo x _ op = Unit {0}

-- a card's operator is read at a place; a label of another segment is an entry of it
pub record CardIsRead (x : Scope) (l : Line) (place : Place) (op : Op) : Type 0 where
  pub label : Option (List ℕ)
  pub sketch : Sketch
  pub says : l.says ≡ Ok (statements.Operator label sketch)
  pub denotes : denoted x sketch ≡ Some op
  pub stands : LabelStandsAt x.labels label place
  pub goes : GoesTo x sketch op
  pub enters : has_entry x.names sketch ≡ true

abbrev pub IsFilled : Entry → Type 0
IsFilled (At place op) = op ≡ Plain Nvld
IsFilled (Break place why) = ⊥

-- NVLD up to a whole word
pub record AreFilled (entries : List Entry) : Type 0 where
  pub few : length entries < 6
  pub each : AllByRecursion IsFilled entries

-- an ENTRY card has no code; any other card's operator is read first
abbrev pub Reads : Scope → Line → Answer Statement → List Entry → (List Entry → Type 0) → Type 0
Reads x l (Ok (statements.Entry label)) entries rest = rest entries
Reads x l says [] rest = ⊥
Reads x l says (Break place why ∷ more) rest = ⊥
Reads x l says (At place op ∷ more) rest = CardIsRead x l place op × rest more

-- the listing of a segment is its cards, one behind the other
abbrev pub AreRead : Scope → List Line → List Entry → Type 0
AreRead x [] entries = AreFilled entries
AreRead x (l ∷ more) entries = Reads x l l.says entries (AreRead x more)

-- a card has this label
abbrev pub HasLabel : List ℕ → Line → Type 0
HasLabel label l = (sketch : Sketch) × (l.says ≡ Ok (statements.Operator (Some label) sketch))

-- a card has this label and its operator is read at this place, or a later one has
abbrev pub Labels : List ℕ → Place → Line → Answer Statement → List Entry → (List Entry → Type 0) → Type 0
Labels label place l (Ok (statements.Entry other)) entries rest = rest entries
Labels label place l says [] rest = ⊥
Labels label place l says (e ∷ more) rest = (HasLabel label l × (place_of_entry e ≡ place)) ⊎ rest more

abbrev pub IsLabelled : List ℕ → Place → List Line → List Entry → Type 0
IsLabelled label place [] entries = ⊥
IsLabelled label place (l ∷ more) entries = Labels label place l l.says entries (IsLabelled label place more)

-- an ENTRY card names this label
pub record IsEntryLabel (label : List ℕ) (cards : List Line) : Type 0 where
  pub card : Line
  pub among : Has cards card
  pub says : card.says ≡ Ok (statements.Entry label)

abbrev pub Rise : List ℕ → Type 0
Rise [] = Unit {0}
Rise (n ∷ more) = AllByRecursion (λ (m : ℕ). n < m) more × Rise more

-- the entries of a segment are the places of the labels that its ENTRY cards name, in order
pub record AreEntered (labels : List ℕ → Option ℕ) (cards : List Line) (entries : List ℕ) : Type 0 where
  pub syllables : List ℕ
  pub places : map place_of_bits entries ≡ map place_at syllables
  pub rise : Rise syllables
  pub named : (label : List ℕ) → IsEntryLabel label cards → (n : ℕ) × (labels label ≡ Some n) × Has syllables n
  pub only : (n : ℕ) → Has syllables n → (label : List ℕ) × IsEntryLabel label cards × (labels label ≡ Some n)

-- a segment's listing is its cards, each label that means a place stands on the card that is read there, and its entries
-- are those that its cards name
pub record IsListed (x : Scope) (cards : List Line) (s : Segment) : Type 0 where
  pub read : AreRead x cards (listing s.code)
  pub labelled : (label : List ℕ) (n : ℕ) → x.labels label ≡ Some n → IsLabelled label (place_at n) cards (listing s.code)
  pub entered : AreEntered x.labels cards s.entries

-- each segment's listing is its own cards
abbrev pub SegmentsAreListed : List Line → List (List Line) → List Segment → Type 0
SegmentsAreListed all [] [] = Unit {0}
SegmentsAreListed all [] (s ∷ rest) = ⊥
SegmentsAreListed all (cards ∷ more) [] = ⊥
SegmentsAreListed all (cards ∷ more) (s ∷ rest) = IsListed (scope_in all cards s.level) cards s × SegmentsAreListed all more rest

-- what is assembled is read card by card
abbrev pub CardsAreRead : Type 0
CardsAreRead = (cards : List Card) (p : Program) → assembled cards ≡ Ok p → SegmentsAreListed (lines_of cards) (cards_of_segments (lines_of cards)) p.segments
