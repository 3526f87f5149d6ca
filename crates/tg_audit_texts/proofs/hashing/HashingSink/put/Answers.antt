use Rattle.std.proofs.Common.{List, arith, length, refl, subst, sym, ℕ}
use Rattle.std.proofs.lemmas.List.{take_all}
use Rattle.tg_audit_texts.specs.Hashing.{Hashes}
use Rattle.tg_audit_texts.proofs.hashing.HashingSink.put.Goals as goal

pub returns-clause-put : goal.returns-clause-put
returns-clause-put c = record {
  moved = subst (λ (l : List ℕ). Hashes c.args.self.now c.add.new.self l) (sym (take_all (length c.args.bytes.now) c.args.bytes.now (omega arith))) c.add.ensures;
  held = refl;
}
