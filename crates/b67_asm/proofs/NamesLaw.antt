-- Names in a list that grows at its end.
use denote.Bor.{Bor}
use Rattle.std.proofs.Common.{◌≡◌, ℕ, Bool, true, false, cond, List, [], ◌∷◌, ◌++◌, map, ◌||◌, Option, Some, None, is_some, refl, sym, ap, ◌∙◌}
use Rattle.std.specs.Option.{option_or, option_copied}
use Rattle.std.specs.List.{cons_option}
use Rattle.std.specs.Str.{bytes_eq}
use Rattle.std.specs.Map.{lookup}
use Rattle.std.proofs.lemmas.Slice.Eq.{bytes_eq-Decides}

-- where the keys lie doesn't matter
pub lookup_seen : {X : Type 0} (q : List ℕ) (es : List (Bor (List ℕ) × X)) → lookup (λ (k : Bor (List ℕ)). bytes_eq q k.now) es ≡ lookup (bytes_eq q) (map (λ (e : Bor (List ℕ) × X). (e.0.now, e.1)) es)
lookup_seen q [] = refl
lookup_seen q (e ∷ es) = ap (cond (bytes_eq q e.0.now) (Some e.1)) (lookup_seen q es)

pub or_none : {X : Type 0} (o : Option X) → o ≡ option_or o None
or_none None = refl
or_none (Some x) = refl

or_some : {X : Type 0} (o p : Option X) → is_some o ≡ true → o ≡ option_or o p
or_some None p e = absurd cc
or_some (Some x) p e = refl

-- a name that is there means what it meant
pub known_name : {X : Type 0} (rows : List (List ℕ × X)) (name : List ℕ) (v : X) → is_some (lookup (bytes_eq name) rows) ≡ true → (q : List ℕ) → lookup (bytes_eq q) rows ≡ option_or (lookup (bytes_eq q) rows) (lookup (bytes_eq q) ((name, v) ∷ []))
known_name rows name v there q = at (bytes_eq q name) refl
  where
    at : (b : Bool) → bytes_eq q name ≡ b → lookup (bytes_eq q) rows ≡ option_or (lookup (bytes_eq q) rows) (lookup (bytes_eq q) ((name, v) ∷ []))
    at true e = or_some (lookup (bytes_eq q) rows) _ (ap (λ (t : List ℕ). is_some (lookup (bytes_eq t) rows)) ((bytes_eq-Decides q name).0 e) ∙ there)
    at false e = rw e (or_none (lookup (bytes_eq q) rows))

-- a name that is added at the end
pub name_behind : {X : Type 0} (q : List ℕ) (es : List (Bor (List ℕ) × X)) (k : Bor (List ℕ)) (v : X) → lookup (bytes_eq q) (map (λ (e : Bor (List ℕ) × X). (e.0.now, e.1)) (es ++ (k, v) ∷ [])) ≡ option_or (lookup (bytes_eq q) (map (λ (e : Bor (List ℕ) × X). (e.0.now, e.1)) es)) (lookup (bytes_eq q) ((k.now, v) ∷ []))
name_behind q [] k v = refl
name_behind q (e ∷ es) k v = step (bytes_eq q e.0.now) e.1 _ _ _ (name_behind q es k v)
  where
    step : {B : Type 0} (b : Bool) (v : B) (all front back : Option B) → all ≡ option_or front back → cond b (Some v) all ≡ option_or (cond b (Some v) front) back
    step true v all front back h = refl
    step false v all front back h = h

pub copied_some : {X : Type 0} (o : Option (Bor X)) → is_some (option_copied o) ≡ is_some o
copied_some None = refl
copied_some (Some x) = refl

pub none_copied : {X : Type 0} (o : Option (Bor X)) → is_some o ≡ false → option_copied o ≡ None
none_copied None e = refl
none_copied (Some x) e = absurd cc

or_three : {X : Type 0} (a b c : Option X) → option_or (option_or a b) c ≡ option_or a (option_or b c)
or_three None b c = refl
or_three (Some x) b c = refl

in_front : {X : Type 0} (q : List ℕ) (d : Option (List ℕ × X)) (rest : List (List ℕ × X)) → lookup (bytes_eq q) (cons_option d rest) ≡ option_or (lookup (bytes_eq q) (cons_option d [])) (lookup (bytes_eq q) rest)
in_front q None rest = refl
in_front q (Some p) rest = at (bytes_eq q p.0) p.1 (lookup (bytes_eq q) rest)
  where
    at : {B : Type 0} (b : Bool) (v : B) (more : Option B) → cond b (Some v) more ≡ option_or (cond b (Some v) None) more
    at true v more = refl
    at false v more = refl

-- one definition more is taken in
pub grown : {X : Type 0} (old new : List (List ℕ × X)) (d : Option (List ℕ × X)) (rest all : List (List ℕ × X)) → ((q : List ℕ) → lookup (bytes_eq q) new ≡ option_or (lookup (bytes_eq q) old) (lookup (bytes_eq q) (cons_option d []))) → ((q : List ℕ) → option_or (lookup (bytes_eq q) old) (lookup (bytes_eq q) (cons_option d rest)) ≡ lookup (bytes_eq q) all) → (q : List ℕ) → option_or (lookup (bytes_eq q) new) (lookup (bytes_eq q) rest) ≡ lookup (bytes_eq q) all
grown old new d rest all step before q =
    ap (λ o. option_or o (lookup (bytes_eq q) rest)) (step q) ∙ or_three (lookup (bytes_eq q) old) (lookup (bytes_eq q) (cons_option d [])) (lookup (bytes_eq q) rest) ∙ ap (option_or (lookup (bytes_eq q) old)) (sym (in_front q d rest)) ∙ before q

-- ---- labels that ENTRY cards name

pub or_false : (b : Bool) → b ≡ (b || false)
or_false true = refl
or_false false = refl

or_assoc : (a b c : Bool) → ((a || b) || c) ≡ (a || (b || c))
or_assoc true b c = refl
or_assoc false b c = refl

some_of_two : {X : Type 0} (a b : Option X) → is_some (option_or a b) ≡ (is_some a || is_some b)
some_of_two None b = refl
some_of_two (Some x) b = refl

one_name : {X : Type 0} (q name : List ℕ) (v : X) → is_some (lookup (bytes_eq q) ((name, v) ∷ [])) ≡ bytes_eq q name
one_name q name v = by_test (bytes_eq q name)
  where
    by_test : (b : Bool) → is_some (cond b (Some v) None) ≡ b
    by_test true = refl
    by_test false = refl

-- one name more is there
pub one_more : {X : Type 0} (old new : List (List ℕ × X)) (name : List ℕ) (v : X) (q : List ℕ) → lookup (bytes_eq q) new ≡ option_or (lookup (bytes_eq q) old) (lookup (bytes_eq q) ((name, v) ∷ [])) → is_some (lookup (bytes_eq q) new) ≡ (is_some (lookup (bytes_eq q) old) || bytes_eq q name)
one_more old new name v q e =
    ap is_some e ∙ some_of_two (lookup (bytes_eq q) old) (lookup (bytes_eq q) ((name, v) ∷ [])) ∙ ap (λ (b : Bool). is_some (lookup (bytes_eq q) old) || b) (one_name q name v)

pub or_rest : (a b c now all : Bool) → now ≡ (a || b) → (a || (b || c)) ≡ all → (now || c) ≡ all
or_rest a b c now all e h = ap (λ (x : Bool). x || c) e ∙ or_assoc a b c ∙ h
