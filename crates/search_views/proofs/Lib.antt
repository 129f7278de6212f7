mod MatchLaws
mod SumLaws
