-- One token after another.
use Rattle.std.proofs.Common.{◌≡◌, List, [], ◌∷◌, map, Some, None, Option, ap, MatchOption}
use Rattle.lines.specs.declared.cursor.Token.{Token}
use Rattle.lines.specs.Tokens.{Lexeme, lexeme}
use Rattle.commands.specs.Parts.{part, token_part}

pub tells_rest : (r : Option Token) (a b : List Lexeme) → MatchOption r (a ≡ []) (λ t. a ≡ lexeme t ∷ b) → MatchOption r (map part a ≡ []) (λ t. map part a ≡ token_part t ∷ map part b)
tells_rest None a b h = ap (map part) h
tells_rest (Some t) a b h = ap (map part) h
