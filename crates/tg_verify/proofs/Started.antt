-- A verifier before its first section.
use Rattle.std.proofs.Common.{[], List, Option, ap, map, refl, subst, sym, ◌∙◌, ◌≡◌, arith, false, true, Bool, ℕ, length, ◌-◌}
use Rattle.std.specs.Prelude.{sum}
use Rattle.tg_cid.specs.Cid.{CidParts}
use Rattle.tg_listing.specs.Listings.{line_of}
use Rattle.tg_model.specs.Counts.{if_once}
use Rattle.tg_model.specs.Dag.{Section}
use Rattle.tg_model.specs.LimitNumbers.{LimitNumbers}
use Rattle.tg_model.specs.Queries.{QueryParts}
use Rattle.tg_model.specs.Traversal.{unrepeated}
use Rattle.tg_model.specs.declared.queries.Scope.{Scope}
use Rattle.tg_model.specs.declared.queries.Scope.TheVariants as scopes
use Rattle.tg_model_laws.specs.Stages.{nothing_given}
use Rattle.tg_model_laws.specs.Tasks.{Task, start}
use Rattle.tg_model_laws.specs.Verified.{Verified, VerifiedLaws}
use Rattle.tg_verify.proofs.Leading.{none_led}
use Rattle.tg_verify.specs.Counting.{AreUnpassed, counts_given}
use Rattle.tg_verify.specs.Reached.{IsReached, stage_of}
use Rattle.tg_verify.specs.State.{VerifierState, listed_of}
use Rattle.tg_verify.specs.Taken.{IsFresh, IsOn, Remembers}
use Rattle.tg_verify.specs.Terminals.{IsTerminalAt}
use Rattle.tg_verify.specs.declared.terminal.Terminal.{Terminal}

none_listed : (scope : Scope) → [] ≡ listed_of scope []
none_listed scopes.Block = refl
none_listed scopes.Entity = refl
none_listed scopes.All = refl

none_remembered : (dups : Bool) → Remembers dups [] []
none_remembered true = refl
none_remembered false = refl

-- nothing is counted yet
blocks_none : (dups : Bool) → if_once dups (length (unrepeated dups [])) ≡ 0
blocks_none true = refl
blocks_none false = refl

bytes_none : (dups : Bool) → if_once dups (sum (map (λ (section : Section). length section.block) (unrepeated dups []))) ≡ 0
bytes_none true = refl
bytes_none false = refl

reused_none : (dups : Bool) → if_once dups (0 - length (unrepeated dups [])) ≡ 0
reused_none true = refl
reused_none false = refl

none_passed : (q : QueryParts) (limits : LimitNumbers) → AreUnpassed limits (counts_given q nothing_given)
none_passed q limits = record {
  entries = omega arith;
  names = omega arith;
  output = omega arith;
  seen_blocks = omega (arith, blocks_none q.dups);
  seen_bytes = omega (arith, bytes_none q.dups);
  reused = omega (arith, reused_none q.dups);
}

pub starts : (v : VerifiedLaws) (state : VerifierState) → IsFresh state → IsOn state [] []
starts v state fresh = record {
  given = nothing_given;
  verified = subst (λ (tasks : List (Task CidParts)). Verified state.left.query [] nothing_given tasks) (sym fresh.left) (v.start state.left.query);
  reached = subst (λ (tasks : List (Task CidParts)). IsReached state.left.query state.limits (stage_of [] nothing_given tasks)) (sym fresh.left) (record { stages = []; leads = refl });
  ends = λ none. absurd (fresh.wanted none);
  keeps = record {
    named = λ section h. absurd (omega (arith, h.1));
    remembers = subst (λ (seen : List (CidParts × List ℕ)). Remembers state.left.query.dups seen []) (sym fresh.seen) (none_remembered state.left.query.dups);
    count = fresh.taken;
  };
  counted = record { counted = fresh.counted; within = none_passed state.left.query state.limits };
  text = refl;
  lines = fresh.lines ∙ ap (map line_of) (none_listed state.left.query.scope);
  terminal = subst (λ (tasks : List (Task CidParts)). IsTerminalAt state.left.query [] nothing_given tasks state.terminal) (sym fresh.left)
      (subst (λ (t : Option Terminal). IsTerminalAt state.left.query [] nothing_given (start state.left.query state.left.query.root) t) (sym fresh.terminal) (none_led v state.left.query));
}
