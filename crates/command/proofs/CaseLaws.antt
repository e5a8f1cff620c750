-- Two rules that agree give the same of a command.
use mathlib.Core.Path.{◌≡◌, refl}
use Prim.Native.Nat.{ℕ}
use Rattle.command.specs.Cases.{on_step, on_root}
use Rattle.command.specs.declared.Command.{Command}
use Rattle.command.specs.declared.Command.TheVariants.{Tags, TypeBlock, Final, Step, Root, Nil, Done, Expression}

pub step_same : {A : Type 0} {f g : ℕ → ℕ → ℕ → A} (x : A) → ((p j q : ℕ) → f p j q ≡ g p j q) → (c : Command) → on_step f x c ≡ on_step g x c
step_same x e (Tags n) = refl
step_same x e (TypeBlock g s) = refl
step_same x e (Final q) = refl
step_same x e (Step p j q) = e p j.0 q
step_same x e (Root a) = refl
step_same x e Nil = refl
step_same x e Done = refl
step_same x e (Expression y) = refl

pub root_same : {A : Type 0} {f g : ℕ → A} (x : A) → ((a : ℕ) → f a ≡ g a) → (c : Command) → on_root f x c ≡ on_root g x c
root_same x e (Tags n) = refl
root_same x e (TypeBlock g s) = refl
root_same x e (Final q) = refl
root_same x e (Step p j q) = refl
root_same x e (Root a) = e a.0
root_same x e Nil = refl
root_same x e Done = refl
root_same x e (Expression y) = refl
