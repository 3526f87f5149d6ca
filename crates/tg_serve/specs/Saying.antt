-- What was said on a link, by how its session ended.
use Rattle.std.proofs.Common.{Bool, Err, List, Ok, Option, arith, false, length, subst, sym, true, ℕ, ◌<◌, ◌∙◌, ◌≡◌}
use Rattle.std.specs.Prelude.{Result, ⊤}
use Rattle.tg_gateway.specs.declared.fault.GatewayFault.{GatewayFault}
use Rattle.tg_gateway.specs.declared.fault.GatewayFault.TheVariants as faults
use Rattle.tg_model.specs.Stores.{Store}
use Rattle.tg_serve.specs.Serving.{LinkRun, SaidAll, SaidBy, SaidFront, SaidUpTo, is_limit, is_memory}

-- all that is sent for what was heard, or for as much of it as may be received, or a front of it
pub data IsSaid (told : Option Store) (most : ℕ) (run : LinkRun) : Type 0 where
  all : SaidAll told run → IsSaid told most run
  up_to : SaidUpTo told most run → IsSaid told most run
  front : SaidFront told run → IsSaid told most run

pub said_by : (told : Option Store) (most : ℕ) (run : LinkRun) (end : Result ⊤ GatewayFault) → SaidBy told most run end → IsSaid told most run
said_by told most run (Ok done) said = IsSaid.all said
said_by told most run (Err (faults.Limit number)) said = IsSaid.up_to (subst (λ (n : ℕ). SaidUpTo told n run) said.0 said.1)
said_by told most run (Err faults.LinkFault) said = IsSaid.front said.0
said_by told most run (Err faults.OutOfMemory) said = IsSaid.front said.0

-- all of it, where memory was found, no call of the link failed, and no more came than may be received
pub all_said : (told : Option Store) (most : ℕ) (run : LinkRun) (end : Result ⊤ GatewayFault) → SaidBy told most run end → is_memory end ≡ false
    → run.failed ≡ false → is_limit end ≡ false → SaidAll told run
all_said told most run (Ok done) said memory failed limit = said
all_said told most run (Err (faults.Limit number)) said memory failed limit = absurd (cc limit)
all_said told most run (Err faults.LinkFault) said memory failed limit = absurd (let no : true ≡ false = sym said.1 ∙ failed in cc)
all_said told most run (Err faults.OutOfMemory) said memory failed limit = absurd (cc memory)

-- and else more did
pub more_came : (told : Option Store) (most : ℕ) (run : LinkRun) (end : Result ⊤ GatewayFault) → SaidBy told most run end → is_limit end ≡ true
    → most < length run.heard
more_came told most run (Ok done) said limit = absurd (cc limit)
more_came told most run (Err (faults.Limit number)) said limit = omega (arith, said.0, said.1.past)
more_came told most run (Err faults.LinkFault) said limit = absurd (cc limit)
more_came told most run (Err faults.OutOfMemory) said limit = absurd (cc limit)
