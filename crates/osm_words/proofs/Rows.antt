-- What a parse by a simple command gives, said of an equal command. No public contract cites it.
use Rattle.std.proofs.Common.{◌≡◌, ◌∙◌, List, Result, IfOk, ap, true}
use Rattle.std.proofs.lemmas.Result.{IfOk-weaker}
use Rattle.clap.specs.Words.{App, HasMatchesOf, Text, found_of, is_simple, matches_of, rows_of}
use Rattle.clap.specs.declared.error.Error.{Error}
use Rattle.clap.specs.declared.parser.matches.ArgMatches.{ArgMatches}

pub rows_by : (a b : App) (words : List Text) (r : Result ArgMatches Error) → a ≡ b → is_simple b ≡ true → IfOk r (HasMatchesOf a words)
    → IfOk r (λ m. rows_of (found_of m) ≡ matches_of b words)
rows_by a b words r same simple has =
    IfOk-weaker r (HasMatchesOf a words) (λ m. rows_of (found_of m) ≡ matches_of b words)
    (λ m h. (h (ap is_simple same ∙ simple)).0 ∙ ap (λ (x : App). matches_of x words) same) has
