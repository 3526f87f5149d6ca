use Rattle.std.proofs.Common.{◌≡◌, List, [], ◌∷◌, ◌++◌, refl, sym, ap, ◌∙◌, subst, inl}
use Rattle.std.proofs.lemmas.Result.{IfErr-weaker, err_from_is_err_and, on_ok_weaker}
use Rattle.tg_cid.specs.declared.cid.Codec.TheVariants.{Raw}
use Rattle.tg_node_writing.specs.KeepingSteps.{same_stops}
use Rattle.tg_filedag.proofs.Runs.{at_once, leaf_stops, leaf_taken}
use Rattle.tg_filedag.proofs.Steps.{leaf_pushed}
use Rattle.tg_filedag.proofs.linking.link_leaf.Goals as goal
use Rattle.tg_filedag.specs.State.{IsGrowing}
use Rattle.tg_filedag.specs.Trees.{bottom_up, leaf_made, leaf_of}
use Rattle.tg_filedag.specs.declared.subtree.Subtree.{Subtree}
use Rattle.tg_model.specs.Dag.{Section}
use Rattle.tg_model.specs.declared.kinds.Made.{Made}
use Rattle.tg_model.specs.declared.stores.KeepFault.TheVariants.{OutOfMemory}
use Rattle.tg_node_writing.specs.Keeping.{section_of}

pub returns-in_err-made-clause-stops : goal.returns-in_err-made-clause-stops
returns-in_err-made-clause-stops g c =
    let p = err_from_is_err_and c.from_residual.result c.from_residual.ensures.1 in
    rw (p.1, p.2) (λ chunks kept f room. ([], c.in_err-made.ensures.stops, inl refl))

pub returns-in_err-push-clause-stops : goal.returns-in_err-push-clause-stops
returns-in_err-push-clause-stops g c =
    let p = err_from_is_err_and c.from_residual-in_err-push.result c.from_residual-in_err-push.ensures.1 in
    let ss = c.args.subtrees.now.items in
    let stop = same_stops g.K.Keep.keeper g.met.K.Keep.rests c.keep_leaf.new.keep in
    rw (p.1, p.2, c.in_err-push.ensures.memory)
    (leaf_stops g.K.Keep.keeper g.met.K.Keep.joins c.kept_sections.ensures.joins c.args.keep.now c.keep_leaf.new.keep c.keep_leaf.new.keep c.args.width ss
    (ss ++ record { height = 0; made = leaf_made c.args.chunk.now } ∷ []) c.args.chunk.now OutOfMemory c.in_ok-made.ensures.made.1 refl c.requires.levels
    (at_once g.K.Keep.keeper c.keep_leaf.new.keep c.keep_leaf.new.keep c.args.width _ OutOfMemory stop))

pub raise-requires : goal.raise-requires
raise-requires g c =
    let req = c.requires.growing in
    let ss = c.args.subtrees.now.items in
    let chunk = c.args.chunk.now in
    let pushed = leaf_pushed c.args.width ss chunk req.0 req.1 req.2 c.requires.levels req.3 in
    let is : c.push.new.subtrees.items ≡ ss ++ record { height = 0; made = leaf_made chunk } ∷ [] =
    c.in_ok-push.ensures.items ∙ ap (λ (m : Made). ss ++ record { height = 0; made = m } ∷ []) c.in_ok-made.ensures.made.0 in (
      req.0 ++ chunk ∷ [],
      req.1 ++ bottom_up (leaf_of chunk),
      subst (λ (t : List Subtree). IsGrowing c.args.width t (req.0 ++ chunk ∷ []) (req.1 ++ bottom_up (leaf_of chunk))) (sym is) pushed,
    )

pub returns-clause-leaf : goal.returns-clause-leaf
returns-clause-leaf g c =
    let ss = c.args.subtrees.now.items in
    let chunk = c.args.chunk.now in
    let is : c.push.new.subtrees.items ≡ ss ++ record { height = 0; made = leaf_made chunk } ∷ [] =
    c.in_ok-push.ensures.items ∙ ap (λ (m : Made). ss ++ record { height = 0; made = m } ∷ []) c.in_ok-made.ensures.made.0 in
    on_ok_weaker c.raise.result
    (λ raises. leaf_taken g.K.Keep.keeper g.met.K.Keep.joins c.kept_sections.ensures.joins c.args.keep.now c.keep_leaf.new.keep c.raise.new.keep c.args.width
    ss c.push.new.subtrees.items c.raise.new.subtrees.items chunk c.in_ok-made.ensures.made.1 is c.requires.levels raises)
    c.raise.ensures.raised

pub returns-clause-stops : goal.returns-clause-stops
returns-clause-stops g c =
    let ss = c.args.subtrees.now.items in
    let chunk = c.args.chunk.now in
    let first : List Section = section_of Raw chunk ∷ [] in
    let is : c.push.new.subtrees.items ≡ ss ++ record { height = 0; made = leaf_made chunk } ∷ [] =
    c.in_ok-push.ensures.items ∙ ap (λ (m : Made). ss ++ record { height = 0; made = m } ∷ []) c.in_ok-made.ensures.made.0 in
    IfErr-weaker c.raise.result _ _
    (λ fault h. leaf_stops g.K.Keep.keeper g.met.K.Keep.joins c.kept_sections.ensures.joins c.args.keep.now c.keep_leaf.new.keep c.raise.new.keep c.args.width ss
    c.push.new.subtrees.items chunk fault c.in_ok-made.ensures.made.1 is c.requires.levels h)
    c.raise.ensures.stops
