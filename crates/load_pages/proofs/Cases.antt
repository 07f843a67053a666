-- Cases of loads, by computation: whole pages, which of the scrapes fail, and when each is made.
use Rattle.std.proofs.Common.{◌≡◌, [], ◌∷◌, ◌++◌, codes, refl}
use Rattle.std.specs.Prelude.{filter}
use Rattle.std.specs.List.{range_with_len}
use Rattle.std.specs.Fmt.{digits}
use Rattle.load_pages.specs.GeneratedPages.{generated_text, counter_text, series_text, series_line, series_name, load_line, load_value, gauge_text, histogram_text, load_buckets, totals_text}
use Rattle.load_pages.specs.GeneratedScripts.{fails_to_connect, round_time, generated_line, generated_scraped}

-- ---- pages

page_1 : generated_text 0 1 3 ≡
    codes "# TYPE load_requests counter\nload_requests_total{series=\"0\"} 3\nload_requests_total{series=\"1\"} 6\nload_requests_total{series=\"2\"} 9\n"
    ++ codes "load_requests_total{series=\"3\"} 12\nload_requests_total{series=\"4\"} 15\nload_requests_total{series=\"5\"} 18\nload_requests_total{series=\"7\"} 24\n"
    ++ codes "load_requests_total{series=\"8\"} 27\nload_requests_total{series=\"9\"} 30\nload_requests_total{series=\"10\"} 33\nload_requests_total{series=\"11\"} 36\n"
    ++ codes "load_requests_total{series=\"12\"} 39\nload_requests_total{series=\"13\"} 42\nload_requests_total{series=\"14\"} 45\nload_requests_total{series=\"15\"} 48\n"
    ++ codes "load_requests_total{series=\"17\"} 54\nload_requests_total{series=\"18\"} 57\nload_requests_total{series=\"19\"} 60\nload_requests_total{series=\"20\"} 63\n"
    ++ codes "load_requests_total{series=\"21\"} 66\nload_requests_total{series=\"22\"} 69\nload_requests_total{series=\"23\"} 72\nload_requests_total{series=\"24\"} 75\n"
    ++ codes "load_requests_total{series=\"25\"} 78\nload_requests_total{series=\"27\"} 84\nload_requests_total{series=\"28\"} 87\nload_requests_total{series=\"29\"} 90\n"
    ++ codes "load_requests_total{series=\"30\"} 93\nload_requests_total{series=\"31\"} 96\nload_requests_total{series=\"32\"} 99\nload_requests_total{series=\"33\"} 102\n"
    ++ codes "load_requests_total{series=\"34\"} 105\nload_requests_total{series=\"35\"} 108\nload_requests_total{series=\"37\"} 114\nload_requests_total{series=\"38\"} 117\n"
    ++ codes "load_requests_total{series=\"39\"} 120\nload_requests_total{series=\"40\"} 123\nload_requests_total{series=\"41\"} 126\nload_requests_total{series=\"42\"} 129\n"
    ++ codes "load_requests_total{series=\"43\"} 132\nload_requests_total{series=\"44\"} 135\nload_requests_total{series=\"45\"} 138\nload_requests_total{series=\"47\"} 144\n"
    ++ codes "load_requests_total{series=\"48\"} 147\nload_requests_total{series=\"49\"} 150\n# TYPE load_level gauge\nload_level 3\n"
    ++ codes "# TYPE load_seconds histogram\nload_seconds_bucket{le=\"0.1\"} 3\nload_seconds_bucket{le=\"1\"} 6\nload_seconds_bucket{le=\"+Inf\"} 9\n"
    ++ codes "load_seconds_count 9\nload_seconds_sum 9\n# EOF\n"
unfolding generated_text counter_text series_text series_line series_name load_line load_value gauge_text histogram_text load_buckets totals_text digits
page_1 = refl

page_2 : generated_text 7 64 299 ≡
    codes "# TYPE load_requests counter\nload_requests_total{series=\"1\"} 10\nload_requests_total{series=\"2\"} 15\nload_requests_total{series=\"3\"} 12\n"
    ++ codes "load_requests_total{series=\"4\"} 10\nload_requests_total{series=\"5\"} 54\nload_requests_total{series=\"6\"} 14\nload_requests_total{series=\"7\"} 32\n"
    ++ codes "load_requests_total{series=\"8\"} 45\nload_requests_total{series=\"9\"} 50\nload_requests_total{series=\"11\"} 24\nload_requests_total{series=\"12\"} 117\n"
    ++ codes "load_requests_total{series=\"13\"} 28\nload_requests_total{series=\"14\"} 60\nload_requests_total{series=\"15\"} 80\nload_requests_total{series=\"16\"} 85\n"
    ++ codes "load_requests_total{series=\"17\"} 54\nload_requests_total{series=\"18\"} 38\nload_requests_total{series=\"19\"} 180\nload_requests_total{series=\"21\"} 88\n"
    ++ codes "load_requests_total{series=\"22\"} 115\nload_requests_total{series=\"23\"} 120\nload_requests_total{series=\"24\"} 75\nload_requests_total{series=\"25\"} 52\n"
    ++ codes "load_requests_total{series=\"26\"} 243\nload_requests_total{series=\"27\"} 56\nload_requests_total{series=\"28\"} 116\nload_requests_total{series=\"29\"} 150\n"
    ++ codes "load_requests_total{series=\"31\"} 96\nload_requests_total{series=\"32\"} 66\nload_requests_total{series=\"33\"} 306\nload_requests_total{series=\"34\"} 70\n"
    ++ codes "load_requests_total{series=\"35\"} 144\nload_requests_total{series=\"36\"} 185\nload_requests_total{series=\"37\"} 190\nload_requests_total{series=\"38\"} 117\n"
    ++ codes "load_requests_total{series=\"39\"} 80\nload_requests_total{series=\"41\"} 84\nload_requests_total{series=\"42\"} 172\nload_requests_total{series=\"43\"} 220\n"
    ++ codes "load_requests_total{series=\"44\"} 225\nload_requests_total{series=\"45\"} 138\nload_requests_total{series=\"46\"} 94\nload_requests_total{series=\"47\"} 432\n"
    ++ codes "load_requests_total{series=\"48\"} 98\nload_requests_total{series=\"49\"} 200\n# TYPE load_level gauge\nload_level 143\n"
    ++ codes "# TYPE load_seconds histogram\nload_seconds_bucket{le=\"0.1\"} 299\nload_seconds_bucket{le=\"1\"} 598\nload_seconds_bucket{le=\"+Inf\"} 897\n"
    ++ codes "load_seconds_count 897\nload_seconds_sum 897\n# EOF\n"
unfolding generated_text counter_text series_text series_line series_name load_line load_value gauge_text histogram_text load_buckets totals_text digits
page_2 = refl

-- ---- scrapes

-- the rounds of the first 40 in which the scrape of the first target of load 0 fails
rounds_failed : filter (fails_to_connect 0 1) (range_with_len 0 40) ≡ 9 ∷ 25 ∷ []
rounds_failed = refl

first_round : round_time 0 ≡ 1000000000
first_round = refl

last_round : round_time 999 ≡ 1000000000000
last_round = refl

last_target : (generated_scraped 64).instance ≡ codes "t64:80"
unfolding generated_line digits
last_target = refl
