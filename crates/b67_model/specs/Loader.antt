-- The listing of a segment, and the eleven rules that admit a program.
use Rattle.std.specs.Prelude.{◌≡◌, ℕ, zero, suc, ◌+◌, ◌-◌, ◌*◌, ◌/◌, ◌%◌, ◌^◌, ◌==◌, ◌&&◌, ◌||◌, not, nat_lt, nat_le, Bool, true, false, List, [], ◌∷◌, ◌++◌, map, filter, length, Option, Some, None, Ok, Err, slice_get, if◌then◌else◌}
use Rattle.std.specs.List.{list_any}
use Rattle.b67_word.specs.declared.couples.Place.{Place}
use Rattle.b67_model.specs.declared.operators.Op.{Op}
use Rattle.b67_model.specs.declared.operators.Op.TheVariants.{Valc, Namc, Mpcw, Brun, Brtr, Brfl, Plain}
use Rattle.b67_model.specs.declared.operators.Code.TheVariants.{Exit, Retn, Nvld}
use Rattle.b67_model.specs.declared.operators.Undecodable.{Undecodable}
use Rattle.b67_model.specs.declared.operators.Undecodable.TheVariants.{BadPlace, NotAdmitted, PastEnd}
use Rattle.b67_word.specs.Operands.{bit}
use Rattle.b67_word.specs.Couples.{couple}
use Rattle.b67_model.specs.Operators.{Reading, operator_at, place_of_bits}
use Rattle.b67_model.specs.State.{Segment}
use Rattle.b67_model.specs.Program.{Program}

-- an operator at its place, or a place at which none can be read
pub data Entry : Type 0 where
  At : (place : Place) (op : Op) → Entry
  Break : (place : Place) (why : Undecodable) → Entry

-- Each operator after the one before, up to the segment's end or a break. What is read at the place is handed on, so that each
-- clause is chosen by it
abbrev pub entries_from : ℕ → List ℕ → Place → Reading → List Entry
entries_from zero code at read = []
entries_from (suc n) code at (Err BadPlace) = []
entries_from (suc n) code at (Err NotAdmitted) = Break at NotAdmitted ∷ []
entries_from (suc n) code at (Err PastEnd) = Break at PastEnd ∷ []
entries_from (suc n) code at (Ok read) = At at read.0 ∷ entries_from n code read.1 (operator_at code read.1)

abbrev pub origin : Place
origin = record { word = 0; syllable = 0 }

-- each operator has a syllable at least
abbrev pub listing : List ℕ → List Entry
listing code = entries_from (6 * length code) code origin (operator_at code origin)

abbrev pub place_of_entry : Entry → Place
place_of_entry (At place op) = place
place_of_entry (Break place why) = place

abbrev pub same_place : Place → Place → Bool
same_place a b = (a.word == b.word) && (a.syllable == b.syllable)

abbrev pub is_start : List Entry → Place → Bool
is_start entries place = list_any (λ e. same_place (place_of_entry e) place) entries

-- a segment with its number and its listing, in its program
pub record Listed : Type 0 where
  pub program : Program
  pub number : ℕ
  pub segment : Segment
  pub entries : List Entry

-- the target of a branch
abbrev pub target_of : Op → Option Place
target_of (Brun place) = Some place
target_of (Brtr place) = Some place
target_of (Brfl place) = Some place
target_of _ = None

abbrev pub couple_bits : Op → Option ℕ
couple_bits (Valc bits) = Some bits
couple_bits (Namc bits) = Some bits
couple_bits _ = None

abbrev pub proc_bits : Op → Option ℕ
proc_bits (Mpcw bits) = Some bits
proc_bits _ = None

abbrev pub may_be_last : Op → Bool
may_be_last (Brun place) = true
may_be_last (Plain Exit) = true
may_be_last (Plain Retn) = true
may_be_last (Plain Nvld) = true
may_be_last _ = false

abbrev pub holds_of : Option ℕ → (ℕ → Bool) → Bool
holds_of None test = false
holds_of (Some n) test = test n

abbrev pub holds_at : Option Place → (Place → Bool) → Bool
holds_at None test = false
holds_at (Some place) test = test place

abbrev pub is_outside : Segment → Place → Bool
is_outside s place = not (nat_lt place.word (length s.code)) || nat_lt 5 place.syllable

abbrev pub is_last : List Entry → Place → Bool
is_last [] place = false
is_last (e ∷ []) place = same_place (place_of_entry e) place
is_last (e ∷ f ∷ more) place = is_last (f ∷ more) place

-- the literal's segment, by its displacement
abbrev pub named_segment : Program → ℕ → Option Segment
named_segment p disp = if nat_lt disp 2 then None else slice_get p.segments (disp - 2)

abbrev pub named_level : Program → ℕ → Option ℕ
named_level p disp = level_in (named_segment p disp)
  where
    level_in : Option Segment → Option ℕ
    level_in None = None
    level_in (Some s) = Some s.level

-- a procedure may begin at a segment's first place and at its entries
abbrev pub may_begin_at : Option Segment → ℕ → Bool
may_begin_at None bits = false
may_begin_at (Some s) bits = (bits == 0) || list_any (λ e. e == bits) s.entries

-- a bit stands outside the fields of a PCW, or the segment field names no segment
abbrev pub has_stray_bits : Program → ℕ → Bool
has_stray_bits p bits = not (nat_lt bits (2 ^ 36)) || not (bit 19 bits == 0) || not (holds_of (named_level p (bits % 2 ^ 14)) (λ level. true))

-- the level isn't that of the named segment or isn't one above the own segment's, or the place is neither 0:0 nor an
-- entry of the named segment. A bit above the place is refused by the rule before
abbrev pub breaks_rule_8 : Listed → ℕ → Bool
breaks_rule_8 l bits =
    let level = (bits / 2 ^ 14) % 2 ^ 5 in
    not (holds_of (named_level l.program (bits % 2 ^ 14)) (λ named. named == level))
    || not (level == l.segment.level + 1) || not (may_begin_at (named_segment l.program (bits % 2 ^ 14)) (bits / 2 ^ 20))

-- the rules that an entry of the listing breaks, but for 9 and 10
abbrev pub broken_at : Listed → Entry → List (ℕ × Bool)
broken_at l (Break place NotAdmitted) = (1, true) ∷ []
broken_at l (Break place PastEnd) = (2, true) ∷ []
broken_at l (Break place BadPlace) = []
broken_at l (At place op) =
    (3, holds_at (target_of op) (λ target. not (is_outside l.segment target) && not (is_start l.entries target))) ∷
    (4, holds_at (target_of op) (is_outside l.segment)) ∷
    (5, is_last l.entries place && not (may_be_last op)) ∷
    (6, holds_of (couple_bits op) (λ bits. nat_lt l.segment.level (couple bits l.segment.level).level)) ∷
    (7, holds_of (proc_bits op) (has_stray_bits l.program)) ∷
    (8, holds_of (proc_bits op) (breaks_rule_8 l)) ∷ []

-- rules 9 and 10 stand at the segment's first place
abbrev pub broken_in : Listed → List (ℕ × Bool)
broken_in l =
    (9, not (nat_le 2 l.segment.level && nat_le l.segment.level 31)) ∷
    (10, (l.number == 1) && not (l.segment.level == 2)) ∷ []

pub record Refusal : Type 0 where
  pub segment : ℕ
  pub place : Place
  pub rule : ℕ

abbrev pub refused : ℕ → Place → List (ℕ × Bool) → List Refusal
refused number place tests = map (λ t. record { segment = number; place = place; rule = t.0 }) (filter (λ t. t.1) tests)

-- what is refused at the places of the listing
abbrev pub refusals_of : Listed → List Entry → List Refusal
refusals_of l [] = []
refusals_of l (e ∷ more) =
    refused l.number (place_of_entry e) (if same_place (place_of_entry e) origin then broken_at l e ++ broken_in l else broken_at l e)
    ++ refusals_of l more

-- rule 11 stands at an entry of the segment that isn't a start
abbrev pub wrong_entries : Listed → List ℕ → List Refusal
wrong_entries l [] = []
wrong_entries l (e ∷ more) = refused l.number (place_of_bits e) ((11, not (is_start l.entries (place_of_bits e))) ∷ []) ++ wrong_entries l more

abbrev pub refusals_from : Program → ℕ → List Segment → List Refusal
refusals_from p n [] = []
refusals_from p n (s ∷ more) =
    let l : Listed = record { program = p; number = n; segment = s; entries = listing s.code } in
    (refusals_of l l.entries ++ wrong_entries l s.entries) ++ refusals_from p (n + 1) more

-- all refusals
abbrev pub refusals : Program → List Refusal
refusals p = if length p.segments == 0 then record { segment = 0; place = origin; rule = 10 } ∷ [] else refusals_from p 1 p.segments

abbrev pub IsAdmitted : Program → Type 0
IsAdmitted p = refusals p ≡ []

-- a place comes before another by word, then by syllable
abbrev pub stands_before : Place → Place → Bool
stands_before a b = nat_lt a.word b.word || ((a.word == b.word) && nat_lt a.syllable b.syllable)

-- a refusal comes before another by segment, then by place, then by rule
abbrev pub comes_before : Refusal → Refusal → Bool
comes_before a b =
    nat_lt a.segment b.segment
    || ((a.segment == b.segment) && (stands_before a.place b.place || (same_place a.place b.place && nat_lt a.rule b.rule)))

-- the refusal that is reported: none comes before it
abbrev pub first_of : List Refusal → Option Refusal
first_of [] = None
first_of (r ∷ more) = Some (earlier r (first_of more))
  where
    earlier : Refusal → Option Refusal → Refusal
    earlier r None = r
    earlier r (Some s) = if comes_before s r then s else r
