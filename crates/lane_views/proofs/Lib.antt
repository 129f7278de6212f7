mod MeasureLaws
mod StepLaws
mod FreshLaws
mod SoundLaws
