-- What a command of one kind gives, by its operands; any other gives what stands beside.
use Rattle.std.specs.Prelude.{Bool, true, false, ℕ}
use Rattle.command.specs.declared.Command.{Command}
use Rattle.command.specs.declared.Part.{Part}
use Rattle.command.specs.declared.Command.TheVariants.{Tags, TypeBlock, Final, Step, Root, Nil, Done, Expression}

abbrev pub on_type : {A : Type 0} → (ℕ → ℕ → A) → A → Command → A
on_type f x (Tags n) = x
on_type f x (TypeBlock g s) = f g.0 s
on_type f x (Final q) = x
on_type f x (Step p j q) = x
on_type f x (Root a) = x
on_type f x Nil = x
on_type f x Done = x
on_type f x (Expression y) = x

-- it is a TYPE
abbrev pub is_type : Command → Bool
is_type c = on_type (λ g s. true) false c

abbrev pub on_final : {A : Type 0} → (ℕ → A) → A → Command → A
on_final f x (Tags n) = x
on_final f x (TypeBlock g s) = x
on_final f x (Final q) = f q
on_final f x (Step p j q) = x
on_final f x (Root a) = x
on_final f x Nil = x
on_final f x Done = x
on_final f x (Expression y) = x

abbrev pub on_step : {A : Type 0} → (ℕ → ℕ → ℕ → A) → A → Command → A
on_step f x (Tags n) = x
on_step f x (TypeBlock g s) = x
on_step f x (Final q) = x
on_step f x (Step p j q) = f p j.0 q
on_step f x (Root a) = x
on_step f x Nil = x
on_step f x Done = x
on_step f x (Expression y) = x

abbrev pub on_root : {A : Type 0} → (ℕ → A) → A → Command → A
on_root f x (Tags n) = x
on_root f x (TypeBlock g s) = x
on_root f x (Final q) = x
on_root f x (Step p j q) = x
on_root f x (Root a) = f a.0
on_root f x Nil = x
on_root f x Done = x
on_root f x (Expression y) = x

abbrev pub on_nil : {A : Type 0} → A → A → Command → A
on_nil y x (Tags n) = x
on_nil y x (TypeBlock g s) = x
on_nil y x (Final q) = x
on_nil y x (Step p j q) = x
on_nil y x (Root a) = x
on_nil y x Nil = y
on_nil y x Done = x
on_nil y x (Expression z) = x

abbrev pub on_expression : {A : Type 0} → (Part → A) → A → Command → A
on_expression f x (Tags n) = x
on_expression f x (TypeBlock g s) = x
on_expression f x (Final q) = x
on_expression f x (Step p j q) = x
on_expression f x (Root a) = x
on_expression f x Nil = x
on_expression f x Done = x
on_expression f x (Expression y) = f y
