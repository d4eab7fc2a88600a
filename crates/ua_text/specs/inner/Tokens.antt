-- How long a piece of text is, and what stands after a token.
use Rattle.std.specs.Prelude.{ℕ, Bool, true, false}
use Rattle.ua_text.specs.declared.tokens.Before.{Before}
use Rattle.ua_text.specs.declared.tokens.Before.TheVariants as before
use Rattle.ua_text.specs.declared.pieces.Piece.{Piece}
use Rattle.ua_text.specs.declared.pieces.Piece.TheVariants.{Gap, Lexeme}
use Rattle.ua_text.specs.declared.pieces.TokenKind.{TokenKind}
use Rattle.ua_text.specs.declared.pieces.TokenKind.TheVariants as kinds

-- how many bytes a piece has
abbrev pub piece_length : Piece → ℕ
piece_length (Gap n) = n
piece_length (Lexeme kind n) = n

abbrev pub is_behind_number : Before → Bool
is_behind_number before.Number = true
is_behind_number _ = false

abbrev pub is_behind_bad : Before → Bool
is_behind_bad before.Bad = true
is_behind_bad _ = false

-- what stands behind a token of this kind
abbrev pub after_token : TokenKind → Before
after_token kinds.Number = before.Number
after_token kinds.Bad = before.Bad
after_token _ = before.Other
