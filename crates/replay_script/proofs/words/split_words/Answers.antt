use Rattle.replay_script.proofs.Fronts.{one_word, two_words, three_words, more_words, four_words}
use Rattle.replay_script.proofs.words.split_words.Goals as goal

pub returns-in-None : goal.returns-in-None
returns-in-None c = one_word c.args.line.now c.in-None.ensures

pub returns-in-None-cut_first : goal.returns-in-None-cut_first
returns-in-None-cut_first c = two_words c.args.line.now _ _ c.in-Some.ensures c.in-None-cut_first.ensures

pub returns-in-None-cut_first-2 : goal.returns-in-None-cut_first-2
returns-in-None-cut_first-2 c = three_words c.args.line.now _ _ _ _ c.in-Some.ensures c.in-Some-cut_first.ensures c.in-None-cut_first-2.ensures

pub returns-in-Some-cut_first-3 : goal.returns-in-Some-cut_first-3
returns-in-Some-cut_first-3 c = more_words c.args.line.now _ _ _ _ _ _ _ _ c.in-Some.ensures c.in-Some-cut_first.ensures c.in-Some-cut_first-2.ensures c.in-Some-cut_first-3.ensures

pub returns-in-None-cut_first-3 : goal.returns-in-None-cut_first-3
returns-in-None-cut_first-3 c = four_words c.args.line.now _ _ _ _ _ _ c.in-Some.ensures c.in-Some-cut_first.ensures c.in-Some-cut_first-2.ensures c.in-None-cut_first-3.ensures
