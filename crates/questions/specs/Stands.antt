-- How an answer stands in its place: 1 and the partner, or 0 and 0 where nothing is answered.
use Rattle.std.specs.Prelude.{pos}
use Rattle.tracker.specs.declared.Seq.{Seq}
use Rattle.tracker.specs.declared.Second.{Second}
use Rattle.lookup.specs.Find.{Partner, partner, nothing}
use Rattle.questions.specs.declared.TsAnswer.{TsAnswer}
use Rattle.questions.specs.declared.SeqAnswer.{SeqAnswer}

abbrev pub ts_stands : Partner Second → TsAnswer
ts_stands (partner s) = record { found = 1; second = s }
ts_stands nothing = record { found = 0; second = record { 0 = pos 0 } }

abbrev pub seq_stands : Partner Seq → SeqAnswer
seq_stands (partner q) = record { found = 1; seq = q }
seq_stands nothing = record { found = 0; seq = record { 0 = 0 } }
