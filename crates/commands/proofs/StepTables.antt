-- Whether a step is one of a block's, by the tables.
use mathlib.Core.Path.{◌≡◌, refl, sym, ap, ◌∙◌}
use mathlib.Core.Bool.{Bool, false, ◌||◌, or_assoc, or-false}
use mathlib.Core.List.{List, [], ◌∷◌}
use Prim.Native.Nat.{ℕ}
use lib.ListN.{length}
use Rattle.std.specs.List.{fold}
use Rattle.sdtd.specs.Schema.{Step}
use Rattle.schema.specs.Value.{steps_of}
use Rattle.commands.specs.File.{same_step, has_step}
use Rattle.commands.proofs.SchemaTables.{SchemaTables}
use Rattle.commands.proofs.Holding.{StepsHold}
use Rattle.commands.proofs.RootTables.{some_reverse}
use Rattle.commands.proofs.StatedLaws.{steps_back}

module _ (p j q : ℕ) where
  -- by going over all steps
  folded : (b : Bool) (ss : List Step) → fold (λ found s. found || same_step p j q s) b ss ≡ (b || has_step p j q ss)
  folded b [] = sym (or-false b)
  folded b (s ∷ ss) = folded (b || same_step p j q s) ss ∙ or_assoc b (same_step p j q s) (has_step p j q ss)

  -- the steps of a block are those at its places
  pub given_holds : (t : SchemaTables) (xs : List Step) (s : ℕ) → StepsHold t xs s
      → fold (λ found x. found || same_step p j q x) false (steps_of t.from t.by t.to s (length xs)) ≡ has_step p j q xs
  given_holds t xs s h = folded false _ ∙ ap (has_step p j q) (steps_back t xs s h) ∙ some_reverse (same_step p j q) (has_step p j q) refl (λ s ss. refl) xs
