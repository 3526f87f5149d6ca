use Rattle.std.proofs.Common.{ℕ, List, [], ◌∷◌, ◌++◌, subst}
use Rattle.tg_pbtable.specs.declared.table.Value.TheVariants.{Number}
use Rattle.tg_unixfs.specs.Writing.{source_of, all_fields, numbered, as_numbers, optional, placed}
use Rattle.tg_unixfs.proofs.Encoding.{PutsFields, number_put, then_put, encoded}
use Rattle.tg_unixfs.proofs.encode.Goals as goal

pub returns : goal.returns
returns c =
    let laws = c.table_laws.ensures in
    let u = c.args.unix.now in
    let source = source_of u.inline in
    let f6 = optional 6 u.fanout in
    let f5 = optional 5 u.hash ++ f6 in
    let f4 = numbered 4 (as_numbers u.sizes) ++ f5 in
    let f3 = optional 3 u.filesize ++ f4 in
    let f2 = placed u.inline ++ f3 in
    let sizes = subst (λ (xs : List ℕ). PutsFields source (numbered 4 (as_numbers xs)) c.put_optional.new.text.items c.put_sizes.new.text.items) c.as_slice.ensures (c.in_ok-put_sizes.ensures source) in
    let p5 : PutsFields source f5 _ _ = then_put laws source (optional 5 u.hash) f6 _ _ _ (c.in_ok-put_optional-2.ensures source) (c.in_ok-put_optional-3.ensures source) in
    let p4 : PutsFields source f4 _ _ = then_put laws source (numbered 4 (as_numbers u.sizes)) f5 _ _ _ sizes p5 in
    let p3 : PutsFields source f3 _ _ = then_put laws source (optional 3 u.filesize) f4 _ _ _ (c.in_ok-put_optional.ensures source) p4 in
    let p2 : PutsFields source f2 _ _ = then_put laws source (placed u.inline) f3 _ _ _ c.in_ok-put_inline.ensures p3 in
    let p1 : PutsFields source (all_fields u) _ _ = then_put laws source (numbered 1 (Number u.kind ∷ [])) f2 _ _ _ (number_put source 1 u.kind _ _ c.in_ok-put_number.ensures) p2 in
    rw c.from.ensures (encoded laws u _ c.requires (subst (λ (t : List ℕ). PutsFields source (all_fields u) t c.put_optional-3.new.text.items) c.in_ok-text.ensures.items p1))
