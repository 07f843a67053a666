use Rattle.std.proofs.Common.{◌≡◌, List, subst, rules}
use Rattle.std.specs.Prelude.{IfOk}
use Rattle.std.specs.Ordering.{is_lt}
use Rattle.std.proofs.lemmas.Cmp.{nat_list_cmp_total}
use Rattle.std.proofs.lemmas.List.Sorted.{answers_always, ranks_by}
use Rattle.page_model.specs.declared.page.Family.{Family}
use Rattle.federation_page.proofs.Sorting.{sort_is, by_name}
use Rattle.federation_page.proofs.conflicts.Founders.into_families.Goals as goal

pub returns : goal.returns
returns c =
    subst (λ (fs : List Family). IfOk c.families_of.result (λ families. families ≡ fs))
    (sort_is c.args.self.families.items c.sort_unstable_by.new.self.items c.requires.apart c.sort_unstable_by.ensures.permutation
    (c.sort_unstable_by.ensures.sorted (λ x y. is_lt (by_name x y)) (ranks_by nat_list_cmp_total (λ (x : Family). x.name)) (answers_always _ _ _ (λ f a r g h. search rules))))
    c.families_of.ensures
