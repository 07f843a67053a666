use Rattle.std.proofs.Common.{◌∙◌, ◌<◌, ◌^◌, List, ap, sym, subst}
use Rattle.page_model.specs.declared.page.Family.{Family}
use Rattle.page_model.specs.Pages.{IsRightPage}
use Rattle.open_writing.specs.OpenForms.{IsOpenForm}
use Rattle.open_writing.specs.Writing.{page_with, sample_lines}
use Rattle.federation_page.specs.Gathering.{federated_page}
use Rattle.federation_page.proofs.FewGathered.{few_gathered}
use Rattle.federation_page.proofs.RightGathered.{formed_targets, right_form}
use Rattle.federation_page.proofs.Writable.{gathered_forms}
use Rattle.federation_page.proofs.gather.Goals as goal

pub gathered_families-requires : goal.gathered_families-requires
gathered_families-requires c = record { able = formed_targets c.args.shown.now c.requires }

pub page_of_families-requires-clause-few : goal.page_of_families-requires-clause-few
unfolding federated_page
page_of_families-requires-clause-few c = subst (λ (fs : List Family). sample_lines fs < 2 ^ 32) (sym c.in_ok-families.ensures) (few_gathered c.args.shown.now c.requires)

pub page_of_families-requires-clause-right : goal.page_of_families-requires-clause-right
unfolding federated_page
page_of_families-requires-clause-right c = subst (λ (fs : List Family). IsRightPage (page_with fs)) (sym c.in_ok-families.ensures) (right_form (federated_page c.args.shown.now) (gathered_forms c.args.shown.now c.requires))

pub returns-clause-page : goal.returns-clause-page
unfolding federated_page
returns-clause-page c = c.page_of_families.ensures.page ∙ ap page_with c.in_ok-families.ensures

pub returns-clause-form : goal.returns-clause-form
unfolding federated_page
returns-clause-form c = subst IsOpenForm (sym (c.page_of_families.ensures.page ∙ ap page_with c.in_ok-families.ensures)) (gathered_forms c.args.shown.now c.requires)
