-- The name that was added makes the path, which is one.
use Rattle.std.proofs.Common.{◌≡◌, sym, ◌∙◌, ap, subst, true, Some, All, ◌++◌, ◌∷◌, []}
use Rattle.ig_space.specs.Path.{is_path}
use Rattle.ig_defs.specs.Names.{IsNameIn}
use Rattle.ig_store.specs.Names.{name_in}
use Rattle.ig_store.proofs.Listings.{named-push}
use Rattle.ig_store.proofs.listing.add_name.Goals as goal

pub returns-in_ok-push-clause-named : goal.returns-in_ok-push-clause-named
returns-in_ok-push-clause-named c =
    let is : Some c.in-Some.name.now ≡ name_in c.args.dir.now c.args.path.now =
    c.in-Some.ensures ∙ (λ k. name_in (c.as_str.ensures.value k) (c.as_str-2.ensures.value k)) in
    let whole : is_path c.args.path.now ≡ true = subst (λ t. is_path t ≡ true) c.as_str-2.ensures.value c.as_str-2.ensures.path in
    let new : c.push.new.self ≡ c.args.names.now ++ c.in-Some.name.now ∷ [] =
    c.in_ok-push.ensures.ok ∙ ap (λ name. c.args.names.now ++ name ∷ []) c.in_ok-of.ensures in
    λ all. subst (All (IsNameIn c.args.dir.now)) (sym new) (named-push _ _ _ _ is whole all)
