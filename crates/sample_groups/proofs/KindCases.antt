-- The kinds with buckets, and those of which several samples make one reading.
use Rattle.std.proofs.Common.{◌≡◌, true, false}
use Rattle.label_sets.specs.declared.kind.Kind.{Kind}
use Rattle.label_sets.specs.declared.kind.Kind.TheVariants.{Counter, Gauge, Histogram, GaugeHistogram, StateSet, Info, Summary, Unknown}
use Rattle.page_model.specs.declared.format.Format.{Format}
use Rattle.page_model.specs.Rules.{is_histogram}
use Rattle.sample_groups.specs.Parts.{is_grouped}

-- what is so of both kinds with buckets is so of each kind with buckets
pub of_histograms : (P : Kind → Type 0) → P Histogram → P GaugeHistogram → (kind : Kind) → is_histogram kind ≡ true → P kind
of_histograms P h g Histogram is = h
of_histograms P h g GaugeHistogram is = g
of_histograms P h g Counter is = absurd (let no : false ≡ true = is in cc)
of_histograms P h g Gauge is = absurd (let no : false ≡ true = is in cc)
of_histograms P h g Summary is = absurd (let no : false ≡ true = is in cc)
of_histograms P h g StateSet is = absurd (let no : false ≡ true = is in cc)
of_histograms P h g Info is = absurd (let no : false ≡ true = is in cc)
of_histograms P h g Unknown is = absurd (let no : false ≡ true = is in cc)

-- what is so of the grouped kinds, one by one
pub record OfGrouped (f : Format) (P : Kind → Type 0) : Type 0 where
  pub histogram : P Histogram
  pub gauge : P GaugeHistogram
  pub summary : P Summary
  pub counter : is_grouped f Counter ≡ true → P Counter

-- is so of each kind that is grouped in the format
pub of_grouped : (f : Format) (P : Kind → Type 0) → OfGrouped f P → (kind : Kind) → is_grouped f kind ≡ true → P kind
of_grouped f P each Histogram is = each.histogram
of_grouped f P each GaugeHistogram is = each.gauge
of_grouped f P each Summary is = each.summary
of_grouped f P each Counter is = each.counter is
of_grouped f P each Gauge is = absurd (let no : false ≡ true = is in cc)
of_grouped f P each StateSet is = absurd (let no : false ≡ true = is in cc)
of_grouped f P each Info is = absurd (let no : false ≡ true = is in cc)
of_grouped f P each Unknown is = absurd (let no : false ≡ true = is in cc)
