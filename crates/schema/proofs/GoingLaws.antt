-- Laws of the ways along steps: the steps as they are taken, and the table of ways told anew.
use mathlib.Core.Path.{◌≡◌, refl, sym, ap, ◌∙◌}
use mathlib.Core.List.{List, [], ◌∷◌, map}
use Prim.Native.Nat.{ℕ, ◌≤◌, ◌<◌}
use lib.ListN.{length, set}
use Rattle.std.specs.Prelude.{fold}
use Rattle.sdtd.specs.Limits.{most_types}
use Rattle.sdtd.specs.Schema.{Step}
use Rattle.schema.specs.Value.{up_from, step_at, steps_of}
use Rattle.schema.specs.Spread.{spread_step, spread_set}
use Rattle.schema.specs.Going.{along, steps_by, tells_by, told_anew}
use Rattle.schema.specs.declared.value.Schema.{Schema}
use Rattle.schema.specs.declared.spread.Way.{Way}
use Rattle.schema.specs.declared.spread.Way.TheVariants.{Back, Forth}
use Rattle.schema.proofs.WaysLaws.{ways_set}

-- steps turned as they come are the steps turned before
fold_turned : (ways : List ℕ) (h : Step → Step) (f g : ℕ → Step) → ((i : ℕ) → h (f i) ≡ g i) → (is : List ℕ) (x : ℕ)
    → fold (λ y s. spread_step ways (h s) y) x (map f is) ≡ spread_set ways (map g is) x
unfolding spread_set
fold_turned ways h f g e [] x = refl
fold_turned ways h f g e (i ∷ is) x =
    ap (λ t. fold (λ y s. spread_step ways (h s) y) (spread_step ways t x) (map f is)) (e i) ∙ fold_turned ways h f g e is (spread_step ways (g i) x)

-- the steps left, taken one after another
pub spread_left : (ways : List ℕ) (way : Way) (v : Schema) (ss : List Step) (s n x : ℕ) → ss ≡ steps_of v.from v.by v.to s n
    → fold (λ y t. spread_step ways (along way t) y) x ss ≡ spread_set ways (steps_by way v s n) x
unfolding steps_of
spread_left ways Back v ss s n x e =
    rw e (fold_turned ways (along Back) (step_at v.from v.by v.to) (step_at v.from v.by v.to) (λ i. refl) (up_from s n) x)
spread_left ways Forth v ss s n x e =
    rw e (fold_turned ways (along Forth) (step_at v.from v.by v.to) (step_at v.to v.by v.from) (λ i. refl) (up_from s n) x)

-- the table stays that of the sets, once a set is another
pub told_next : (way : Way) (v : Schema) (ways sets : List ℕ) (a x : ℕ) → v.types ≤ most_types → length sets ≡ most_types → a < v.types
    → told_anew way v a x (tells_by way v ways sets) ≡ tells_by way v ways (set sets a x)
told_next Back v ways sets a x most long l = sym (ways_set v.nillable v.types most sets a x long l)
told_next Forth v ways sets a x most long l = refl

-- it tells the same of all sets
pub told_same : (way : Way) (v : Schema) (ways told sets : List ℕ) → told ≡ tells_by way v ways sets → tells_by way v told ≡ tells_by way v ways
told_same Back v ways told sets e = refl
told_same Forth v ways told sets e = ap (tells_by Forth v) e
