-- How many blocks a traversal wants at most that goes no deeper than some number of blocks.
use Rattle.std.proofs.Common.{List, Some, [], ap, refl, suc, sym, zero, ℕ, ◌*◌, ◌+◌, ◌-◌, ◌<◌, ◌^◌, ◌∙◌, ◌∷◌, ◌≡◌, ◌≤◌}
use Rattle.tg_cid.specs.Cid.{CidParts}
use Rattle.tg_traversal.specs.Left.{IsNext, LeftState, WantedAt, tasks_left}
use Rattle.tg_traversal.specs.declared.frames.Next.{Next}
use Rattle.tg_traversal.specs.declared.frames.Next.TheVariants as nexts
use Rattle.tg_model_laws.specs.Tasks.{Task, depth_of, give_entries, give_text, open_block, stop_at, tasks_then}

-- how many blocks there are at most from a place on, with so many levels of blocks below it: a block has less than 2 ^ 64
-- links
abbrev pub blocks_from : ℕ → ℕ
blocks_from zero = 1
blocks_from (suc levels) = 2 ^ 64 * blocks_from levels

-- and from each place on that is left, none of them more than `most` blocks deep
abbrev pub blocks_over : ℕ → List (Task CidParts) → ℕ
blocks_over most [] = 0
blocks_over most (open_block w cid ∷ tasks) = blocks_from (most + 1 - depth_of w) + blocks_over most tasks
blocks_over most (give_text text ∷ tasks) = blocks_over most tasks
blocks_over most (give_entries met ∷ tasks) = blocks_over most tasks
blocks_over most (stop_at miss ∷ tasks) = blocks_over most tasks

-- behind a block that was opened at the wanted place, not too deep, fewer blocks are left
abbrev pub HasFewer : LeftState → LeftState → Type 0
HasFewer old new = (most : ℕ) (at : WantedAt) → old.wanted ≡ Some at → depth_of at.want ≤ most → blocks_over most (tasks_left new) < blocks_over most (tasks_left old)

-- as many are left behind the texts and entries that come first
pub then_keeps : (most : ℕ) (tasks : List (Task CidParts)) → blocks_over most (tasks_then tasks) ≡ blocks_over most tasks
then_keeps most [] = refl
then_keeps most (open_block w cid ∷ tasks) = refl
then_keeps most (give_text text ∷ tasks) = then_keeps most tasks
then_keeps most (give_entries met ∷ tasks) = then_keeps most tasks
then_keeps most (stop_at miss ∷ tasks) = refl

-- and behind what comes next
pub next_keeps : (most : ℕ) (old new : LeftState) (next : Next) → IsNext old next new → blocks_over most (tasks_left new) ≡ blocks_over most (tasks_left old)
next_keeps most old new nexts.Nothing (before, behind) = ap (blocks_over most) (behind ∙ sym before)
next_keeps most old new nexts.Block (at, wanted, same) = ap (blocks_over most) same
next_keeps most old new nexts.Line first = sym (ap (blocks_over most) first)
next_keeps most old new (nexts.Entry entry size) (directory, long, first) = sym (ap (blocks_over most) first)
next_keeps most old new (nexts.Missing miss) (more, first, same) = ap (λ (state : LeftState). blocks_over most (tasks_left state)) same
