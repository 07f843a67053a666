mod CommandLaws
mod PrintLaws
mod EndLaws
mod ReadLaws
mod RunLaws
