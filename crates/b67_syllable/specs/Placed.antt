-- An operator after which there is a place.
use Rattle.std.specs.Prelude.{◌^◌, nat_lt, if◌then◌else◌, Ok, Err}
use Rattle.b67_model.specs.declared.operators.Undecodable.TheVariants.{PastEnd}
use Rattle.b67_model.specs.Operators.{Reading}

-- a place's word has 16 bits, so an operator that ends behind word 65,534 is past the end of what can be read
abbrev pub within_word : Reading → Reading
within_word (Ok (op, next)) = if nat_lt next.word (2 ^ 16) then Ok (op, next) else Err PastEnd
within_word (Err why) = Err why
