-- What is added for an opening says its kind and its tag.
use mathlib.Core.Path.{◌≡◌, refl}
use Prim.Native.Nat.{ℕ, ◌*◌, ◌/◌, ◌≤◌, ◌<◌}
use native.Mathlib.Omega.{arith}
use borrow.Author.Tests.{le-leb, lt-leb}
use Rattle.sdtd.specs.Limits.{most_tags}
use Rattle.sdtd.specs.Tree.{Kind, plain, nil}
use Rattle.schema.specs.Rows.{type_room}
use Rattle.reading.specs.Sought.{kind_place, rotation, kind_sought, tag_sought, IsSought}

most : (κ : Kind) (g : ℕ) → rotation κ g ≤ 3 * kind_place / 2
most plain g = omega arith
most nil g = omega arith

pub sought_most : {n : ℕ} → IsSought n → n ≤ 2 * kind_place
sought_most {n} s = omega (arith, s, most (kind_sought n) (tag_sought n))

kind_is : (κ : Kind) (g : ℕ) → g < most_tags → kind_sought (rotation κ g) ≡ κ
kind_is plain g l = rw (lt-leb (rotation plain g) (2 * most_tags * type_room) (omega arith)) refl
kind_is nil g l = rw (le-leb (rotation nil g) (2 * most_tags * type_room) (omega arith)) refl

tag_is : (κ : Kind) (g : ℕ) → g < most_tags → tag_sought (rotation κ g) ≡ g
tag_is plain g l = omega arith
tag_is nil g l = omega arith

module _ (κ : Kind) (g : ℕ) (below : g < most_tags) {n : ℕ} (is : n ≡ rotation κ g) where
  pub is_sought : IsSought n
  is_sought = rw (is, kind_is κ g below, tag_is κ g below) refl
