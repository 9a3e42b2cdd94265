-- Numbers written one after another, with ", " between them.
use Rattle.std.proofs.Common.{◌≡◌, ℕ, List, [], ◌∷◌, ◌++◌, codes, decimal, refl, ap, subst}
use Rattle.std.specs.declared.fmt.Error.{Error}
use Rattle.std.specs.declared.fmt.Formatter.{Formatter}
use Rattle.std.specs.declared.result.Result.{Result}
use Rattle.std.specs.Fmt.{WritesOnOk}
use Rattle.std.specs.List.{flat_map, join_by}
use Rattle.wording.specs.Words.{more_words, number_words}

more_words_joined : (ns : List ℕ) → flat_map (λ n. codes ", " ++ decimal n) ns ≡ more_words ns
more_words_joined [] = refl
more_words_joined (n ∷ ns) = ap (λ (l : List ℕ). codes ", " ++ (decimal n ++ l)) (more_words_joined ns)

number_words_joined : (ns : List ℕ) → join_by decimal (codes ", ") ns ≡ number_words ns
number_words_joined [] = refl
number_words_joined (n ∷ ns) = ap (λ (l : List ℕ). decimal n ++ l) (more_words_joined ns)

-- numbers joined by the mark ", " were written, in the words for them
pub number_words_written : {W : Type 0} {took : W → List ℕ → W → Type 0} {f g : Formatter W} (r : Result (Unit {0}) Error) (ns : List ℕ) → WritesOnOk took f r (join_by decimal (codes ", ") ns) g → WritesOnOk took f r (number_words ns) g
number_words_written {took = took} {f = f} {g = g} r ns = subst (λ (l : List ℕ). WritesOnOk took f r l g) (number_words_joined ns)
